use Rattle.std.proofs.Common.{◌≡◌, ℕ, drop, IfOk, refl, sym, ap, subst, ◌∙◌, arith, encode_utf8_all}
use Rattle.ecma_place.specs.Cursor.{rest, place}
use Rattle.ecma_place.specs.declared.place.Span.{Span}
use Rattle.ecma_place.proofs.MoveLemmas.{place-passed-le}
use Rattle.ecma_place.proofs.RunLemmas.{further-HasPlace, further-start, further-step, text-passed}
use Rattle.ecma_token.specs.View.{TokenView, token_view}
use Rattle.ecma_token.specs.declared.error.SyntaxError.{UnterminatedRegExp}
use Rattle.ecma_grammar.specs.Expressions.{body_cutter, body_pieces, flags}
use Rattle.ecma_grammar.specs.Found.{Scanned, found_view, found_at, token_behind, span_of}
use Rattle.ecma_grammar.specs.Pieces.{spelled}
use Rattle.ecma_grammar.proofs.NumberRefusals.{seen_error}
use Rattle.ecma_regexp.proofs.ExpressionFound.{regex_closed, regex_open, body_taken, body_place, closed_moved, regex_flags, on_map, slash_there, open_place, open_moved, open_found}
use Rattle.ecma_regexp.proofs.expression.expression_at.Goals as goal

pub slice-body-requires-clause-in_order : goal.slice-body-requires-clause-in_order
slice-body-requires-clause-in_order c =
    rw (c.cur_pos-behind.ensures, c.cur_pos.ensures) (place-passed-le _ _ _ (c.skip_body.ensures.body c.if-skip_body.true))

pub slice-body-requires-clause-from_place : goal.slice-body-requires-clause-from_place
slice-body-requires-clause-from_place c =
    let moved = c.skip_body.ensures.body c.if-skip_body.true in
    further-HasPlace c.bump.new.self _ _ (further-step _ _ _ _ (further-start _) moved) c.cur_pos-behind.ensures

pub scan_closed-requires-clause-slash : goal.scan_closed-requires-clause-slash
scan_closed-requires-clause-slash c =
    slash_there c.bump.new.self _ (sym c.if-skip_body.true ∙ c.skip_body.ensures.closed) (c.skip_body.ensures.body c.if-skip_body.true)

pub scan_closed-requires-clause-order : goal.scan_closed-requires-clause-order
scan_closed-requires-clause-order c =
    omega (arith, c.cur_pos-start.ensures, place-passed-le _ _ _ (c.skip_body.ensures.body c.if-skip_body.true), place-passed-le _ _ 1 c.bump.ensures)

pub returns-then-skip_body-clause-found : goal.returns-then-skip_body-clause-found
returns-then-skip_body-clause-found c =
    let old = c.args.input.now in
    let one = c.bump.new.self in
    let moved = c.skip_body.ensures.body c.if-skip_body.true in
    let closed = sym c.if-skip_body.true ∙ c.skip_body.ensures.closed in
    let body = c.slice-body.ensures ∙ text-passed one _ _ _ _ moved c.cur_pos-behind.ensures c.cur_pos.ensures ∙ ap encode_utf8_all (body_taken one) in
    let found = c.scan_closed.ensures.found (spelled body_cutter (body_pieces (rest one))) body (body_place old one _ _ c.requires c.bump.ensures moved c.cur_pos-start.ensures) in
    let P : Scanned TokenView → Type 0 = λ s. IfOk c.scan_closed.result (λ f. found_view token_view f ≡ found_at token_behind (place old) s) in
    subst P (regex_closed old one _ c.bump.ensures closed moved) (rw c.cur_pos-start.ensures at found)

pub returns-then-skip_body-clause-moved : goal.returns-then-skip_body-clause-moved
returns-then-skip_body-clause-moved c =
    let moved = c.skip_body.ensures.body c.if-skip_body.true in
    let closed = sym c.if-skip_body.true ∙ c.skip_body.ensures.closed in
    on_map c.scan_closed.result (closed_moved _ _ _ _ c.bump.ensures closed moved) c.scan_closed.ensures.moved

pub returns-then-skip_body-clause-free : goal.returns-then-skip_body-clause-free
returns-then-skip_body-clause-free c =
    let moved = c.skip_body.ensures.body c.if-skip_body.true in
    let closed = sym c.if-skip_body.true ∙ c.skip_body.ensures.closed in
    let same = regex_closed c.args.input.now _ _ c.bump.ensures closed moved in
    λ token value owns.
    let parts = regex_flags _ (flags (drop 1 (rest c.skip_body.new.input))).value token (ap (λ (s : Scanned TokenView). s.value) same ∙ value) owns in
    c.scan_closed.ensures.free parts.0 parts.1 parts.2

pub new-extent-requires : goal.new-extent-requires
new-extent-requires c =
    omega (arith, c.cur_pos-start.ensures, c.cur_pos-2.ensures, open_place _ _ _ c.requires c.bump.ensures (c.skip_body.ensures.line c.if-skip_body.false))

pub returns-in_err-error-clause-free : goal.returns-in_err-error-clause-free
returns-in_err-error-clause-free c =
    let same = regex_open c.args.input.now c.bump.new.self c.bump.ensures (sym c.if-skip_body.false ∙ c.skip_body.ensures.closed) in
    λ token value owns.
    let refused = ap (λ (s : Scanned TokenView). s.value) same ∙ value in
    cc

pub returns-clause-found : goal.returns-clause-found
returns-clause-found c =
    let old = c.args.input.now in
    let one = c.bump.new.self in
    let moved = c.skip_body.ensures.line c.if-skip_body.false in
    let same = regex_open old one c.bump.ensures (sym c.if-skip_body.false ∙ c.skip_body.ensures.closed) in
    let span : ℕ → ℕ → Span = λ low high. span_of low high in
    let extent = c.new-extent.ensures ∙ ap (λ low. span low c.cur_pos-2.result.0) c.cur_pos-start.ensures
    ∙ ap (λ high. span (place old) high) (c.cur_pos-2.ensures ∙ open_place old one _ c.requires c.bump.ensures moved) in
    rw c.new-2.ensures.items
    (open_found (place old) (rest one) _ c.new-extent.result (seen_error _ UnterminatedRegExp _ _ c.in_ok-error.ensures refl) extent ∙ ap (found_at token_behind (place old)) same)

pub returns-clause-moved : goal.returns-clause-moved
returns-clause-moved c =
    open_moved _ _ _ c.bump.ensures (sym c.if-skip_body.false ∙ c.skip_body.ensures.closed) (c.skip_body.ensures.line c.if-skip_body.false)
