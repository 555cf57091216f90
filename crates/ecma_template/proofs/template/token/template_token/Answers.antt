use Rattle.std.proofs.Common.{sym, ap, ◌∙◌}
use Rattle.ecma_place.specs.Atom.{borrowed_atom}
use Rattle.ecma_place.specs.Cursor.{place}
use Rattle.ecma_token.specs.View.{kind_view}
use Rattle.ecma_template.specs.WrittenTemplates.{refused_at}
use Rattle.ecma_template.proofs.TemplateFound.{refused-token, cooked-token}
use Rattle.ecma_template.proofs.TemplateLaws.{no_refusal}
use Rattle.ecma_template.proofs.TemplatePieces.{pieces_at}
use Rattle.ecma_template.proofs.template.token.template_token.Goals as goal

pub returns-in_err-error-in-Some-clause-free : goal.returns-in_err-error-in-Some-clause-free
returns-in_err-error-in-Some-clause-free c =
    λ verbatim.
    let text = c.args.text.now in
    let none = no_refusal (place text) (pieces_at text) (sym c.requires.verbatim ∙ verbatim) in
    let some = rw c.in-Some.is at c.requires.refusal in
    let both = some ∙ none in
    cc

pub returns-in_ok-error-in-Some-clause-value : goal.returns-in_ok-error-in-Some-clause-value
returns-in_ok-error-in-Some-clause-value c =
    let text = c.args.text.now in
    let some = rw c.in-Some.is at c.requires.refusal in
    let error = c.in_ok-error-in-Some.ensures in
    refused-token (place text) (pieces_at text) _ _ _ (refused_at (c.in-Some.refusal, c.in-Some.span)) (c.from.ensures ∙ ap borrowed_atom c.requires.raw)
    (ap kind_view error.kind_is ∙ c.refusal_kind.ensures) error.span_is some

pub returns-in_ok-cooked-in-None-clause-value : goal.returns-in_ok-cooked-in-None-clause-value
returns-in_ok-cooked-in-None-clause-value c =
    let text = c.args.text.now in
    let none = rw c.in-None.is at c.requires.refusal in
    cooked-token (place text) (pieces_at text) _ _ (c.from-in-None.ensures ∙ ap borrowed_atom c.requires.raw) c.in_ok-cooked-in-None.ensures.value none
