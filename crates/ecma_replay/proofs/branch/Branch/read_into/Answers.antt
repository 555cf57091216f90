use Rattle.std.proofs.Common.{◌∙◌, ap, subst, sym}
use Rattle.std.specs.Prelude.{option_map}
use Rattle.ecma_token.specs.View.{spanned_view}
use Rattle.ecma_replay.specs.Playing.{IsAt}
use Rattle.ecma_replay.proofs.JoinedLemmas.{read-end, read-token}
use Rattle.ecma_replay.proofs.branch.Branch.read_into.Goals as goal

pub returns-in_ok-self-inside-in-Some-clause-acts : goal.returns-in_ok-self-inside-in-Some-clause-acts
returns-in_ok-self-inside-in-Some-clause-acts c = λ s at.
    read-token c.args.trees.now c.keep.new.self s _ c.read_into.new.self c.in_ok-self-inside-in-Some.field-0 c.in-Some.token c.reads_again-again.result (subst (IsAt c.args.trees.now s) (sym c.self.view_is) at) c.reads_again-again.ensures
    (ap (option_map spanned_view) (sym c.in-Some.is) ∙ c.in_ok-read_into.ensures.answer) c.in_ok-read_into.ensures.after (rw c.of.ensures at c.in_ok-self-inside-in-Some.ensures)

pub returns-in-None-clause-acts : goal.returns-in-None-clause-acts
returns-in-None-clause-acts c = λ s at.
    rw c.in-None.is (read-end c.args.trees.now s _ c.read_into.new.self (subst (IsAt c.args.trees.now s) (sym c.self.view_is) at) (ap (option_map spanned_view) (sym c.in-None.is) ∙ c.in_ok-read_into.ensures.answer) c.in_ok-read_into.ensures.after)
