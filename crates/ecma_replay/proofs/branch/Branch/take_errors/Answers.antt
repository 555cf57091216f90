use Rattle.std.proofs.Common.{◌∙◌, ap, map, refl, subst, sym}
use Rattle.ecma_token.specs.View.{error_view}
use Rattle.ecma_replay.specs.Playing.{IsAt}
use Rattle.ecma_replay.proofs.JoinedLemmas.{errors-taken}
use Rattle.ecma_replay.proofs.branch.Branch.take_errors.Goals as goal

pub returns : goal.returns
returns c = λ s at.
    errors-taken c.args.trees.now s _ c.take_errors-found.new.self _ c.in_ok-before.before.items c.into_vec.result.items c.of.result (subst (IsAt c.args.trees.now s) (sym c.self.view_is) at)
    c.in_ok-before.ensures (ap (map error_view) c.into_vec.ensures ∙ c.take_errors-found.ensures.errors) (c.of.ensures ∙ c.in_ok-errors.ensures) refl c.take_errors-found.ensures.after
