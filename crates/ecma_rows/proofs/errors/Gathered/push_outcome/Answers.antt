use Rattle.std.proofs.Common.{◌∙◌, List, ap, map}
use Rattle.ecma_token.specs.View.{error_view}
use Rattle.ecma_token.specs.declared.error.Error.{Error}
use Rattle.ecma_rows.proofs.ErrorLemmas.{gathers-all}
use Rattle.ecma_rows.proofs.errors.Gathered.push_outcome.Goals as goal

pub returns : goal.returns
returns c = λ s left tokens.
    let views = λ (es : List Error). map error_view es in
    gathers-all s _ _ c.push_all-2.new.self (ap views c.as_slice.ensures ∙ left.errors) (ap views c.as_slice-2.ensures ∙ left.waiting)
    (c.in_ok-push_all-2.ensures _ (c.in_ok-push_all.ensures _ tokens))
