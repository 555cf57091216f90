use Rattle.std.proofs.Common.{◌++◌, ◌∙◌, sym, ap, map}
use Rattle.ecma_token.specs.View.{spanned_view}
use Rattle.ecma_state.specs.Session.{kept_of}
use Rattle.ecma_program.proofs.Keeping.{kept-in-order}
use Rattle.ecma_program.proofs.kept_tokens.keep_tokens.Goals as goal

pub returns-clause-tokens : goal.returns-clause-tokens
returns-clause-tokens c s stands =
    let first =
    c.in_ok-keep_all.ensures
    ∙ ap (λ none. none ++ map kept_of (map spanned_view c.deref.result.now)) c.new-kept.ensures.items
    ∙ ap (λ items. map kept_of (map spanned_view items)) c.deref.ensures.value
    ∙ ap (map kept_of) stands.kept in
    c.in_ok-keep_rest.ensures.tokens s (sym stands.state) first ∙ kept-in-order s
