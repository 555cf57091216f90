use Rattle.std.proofs.Common.{◌∙◌, ap, map, subst, sym}
use Rattle.ecma_token.specs.View.{error_view}
use Rattle.ecma_state.specs.Errors.{errors_view}
use Rattle.ecma_replay.specs.Playing.{IsAt}
use Rattle.ecma_replay.proofs.JoinedLemmas.{settled}
use Rattle.ecma_replay.proofs.branch.Branch.settle.Goals as goal

pub returns-clause-at : goal.returns-clause-at
returns-clause-at c = λ s at.
    settled c.args.trees.now c.add.new.self s _ c.take_found-errors.new.self c.in_ok-self-inside.field-0 c.into_vec.result.items c.into_vec-2.result.items c.take_found-errors.result.1.items
    (subst (IsAt c.args.trees.now s) (sym c.self.view_is) at) c.in_ok-self-inside.ensures
    (ap (map error_view) c.into_vec.ensures ∙ ap (λ e. (errors_view e).recorded) c.errors.view_is ∙ ap (λ e. e.recorded) c.take_found-errors.ensures.errors)
    (ap (map error_view) c.into_vec-2.ensures ∙ ap (λ e. (errors_view e).waiting) c.errors.view_is ∙ ap (λ e. e.waiting) c.take_found-errors.ensures.errors)
    c.take_found-errors.ensures.comments c.take_found-errors.ensures.after

pub returns-clause-grows : goal.returns-clause-grows
returns-clause-grows c = c.in_ok-self-inside.ensures.grows

pub returns-clause-drained : goal.returns-clause-drained
returns-clause-drained c = ap (λ k. k.errors) c.take_found-errors.ensures.after
