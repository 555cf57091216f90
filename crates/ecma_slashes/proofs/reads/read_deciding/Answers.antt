use Rattle.std.proofs.Common.{◌∙◌, ap, sym}
use Rattle.ecma_slashes.proofs.RoleLemmas.{decides-on, nothing-names}
use Rattle.ecma_slashes.proofs.reads.read_deciding.Goals as goal

pub returns-then-asks_nothing-clause-steps : goal.returns-then-asks_nothing-clause-steps
returns-then-asks_nothing-clause-steps c = λ rule s at decides.
    c.read_plainly.ensures.steps rule s at (nothing-names rule s c.args.decider.now decides (sym c.asks_nothing.ensures ∙ c.if-asks_nothing.true))

pub returns-then-asks_nothing-clause-decides : goal.returns-then-asks_nothing-clause-decides
returns-then-asks_nothing-clause-decides c = λ rule s at decides.
    decides-on rule s c.args.decider.now c.read_plainly.result (ap (λ l. l.reread) at ∙ c.requires.no_reread) decides (sym c.asks_nothing.ensures ∙ c.if-asks_nothing.true)

pub returns-then-asks_nothing-clause-free : goal.returns-then-asks_nothing-clause-free
returns-then-asks_nothing-clause-free c = λ rule s at decides room.
    c.read_plainly.ensures.free rule s at (nothing-names rule s c.args.decider.now decides (sym c.asks_nothing.ensures ∙ c.if-asks_nothing.true))
