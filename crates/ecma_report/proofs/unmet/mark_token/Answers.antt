use Rattle.std.proofs.Common.{◌∙◌, ◌++◌, ◌&&◌, append-nil, ap, subst, sym}
use Rattle.std.specs.Prelude.{◌==◌, option_map}
use Rattle.ecma_token.specs.View.{spanned_view}
use Rattle.ecma_reader.specs.Readers.{tokens_found}
use Rattle.ecma_report.specs.Unmet.{AreMarked, has_slash}
use Rattle.ecma_report.proofs.UnmetLemmas.{marked-more, marked-no-more}
use Rattle.ecma_report.proofs.unmet.mark_token.Goals as goal

pub returns-then-begins_with_slash-clause-marked : goal.returns-then-begins_with_slash-clause-marked
returns-then-begins_with_slash-clause-marked c = λ tokens is.
    let text = c.args.text.now in
    let places = c.args.places.now in
    let named = c.mark.new.marked in
    let token = spanned_view c.in-Some.token in
    let begins = sym c.begins_with_slash.ensures ∙ c.if-begins_with_slash.true in
    subst (λ s. AreMarked text places named (tokens ++ tokens_found (option_map spanned_view s))) (sym c.in-Some.is)
    (marked-more text places tokens token named (λ p. p.0 == token.span.lo.0) (c.mark.ensures.marked (has_slash text tokens) is) (λ p. ap (λ b. b && (p.0 == token.span.lo.0)) (sym begins)))

pub returns-else-begins_with_slash-clause-marked : goal.returns-else-begins_with_slash-clause-marked
returns-else-begins_with_slash-clause-marked c = λ tokens is.
    let text = c.args.text.now in
    let places = c.args.places.now in
    let named = c.args.marked.now in
    subst (λ s. AreMarked text places named (tokens ++ tokens_found (option_map spanned_view s))) (sym c.in-Some.is)
    (marked-no-more text places tokens (spanned_view c.in-Some.token) named is (sym c.begins_with_slash.ensures ∙ c.if-begins_with_slash.false))

pub returns-in_default-clause-marked : goal.returns-in_default-clause-marked
returns-in_default-clause-marked c = λ tokens is.
    let text = c.args.text.now in
    let places = c.args.places.now in
    let named = c.args.marked.now in
    subst (λ s. AreMarked text places named (tokens ++ tokens_found (option_map spanned_view s))) (sym c.in_default.is) (subst (AreMarked text places named) (sym (append-nil tokens)) is)
