use Rattle.std.proofs.Common.{sym, ◌∙◌, ap}
use Rattle.ecma_replay.proofs.JoinedLemmas.{delivered-first, enters-none}
use Rattle.ecma_replay.proofs.branch.Branch.enter.Goals as goal

pub returns-clause-enters : goal.returns-clause-enters
returns-clause-enters c = λ s at. delivered-first c.deliver.new.trees s c.args.context.now c.deliver.new.self c.if-not-context.false (c.in_ok-deliver.ensures.at s at)

pub returns-then-self-eq0-clause-enters : goal.returns-then-self-eq0-clause-enters
returns-then-self-eq0-clause-enters c = λ s at.
    enters-none c.args.trees.now s c.args.context.now c.args.self.now at (ap (λ b. b.ways.waiting) (sym c.self.view_is) ∙ c.if-self-eq0.true)
