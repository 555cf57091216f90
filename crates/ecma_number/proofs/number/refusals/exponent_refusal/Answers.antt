use Rattle.std.proofs.Common.{◌≡◌, ◌+◌, length, Option, option_map, IfOk, refl, sym, subst, ◌∙◌, arith, length-append}
use Rattle.ecma_place.specs.Cursor.{rest}
use Rattle.ecma_token.specs.View.{ErrorView, error_view}
use Rattle.ecma_number.proofs.Refusals.{mark_refused, mark_followed}
use Rattle.ecma_number.proofs.number.refusals.exponent_refusal.Goals as goal

pub returns-in-Unscaled-clause-value : goal.returns-in-Unscaled-clause-value
returns-in-Unscaled-clause-value c = rw c.in-Unscaled.is refl

pub returns-then-ends_at_mark-clause-value : goal.returns-then-ends_at_mark-clause-value
returns-then-ends_at_mark-clause-value c =
    let form = rw c.in-Marked.is at c.requires.form in
    rw c.in-Marked.is
    (mark_refused c.args.start.0 c.in-Marked.mark c.in-Marked.sign.now c.in-Marked.run'.now (rest c.args.input.now) _ _ form.0 (c.ends_at_mark.ensures.0 c.if-ends_at_mark.true) c.in_ok-error-in-Marked.ensures c.new.ensures)

pub overflow_cast-sign : goal.overflow_cast-sign
overflow_cast-sign c =
    let fits = rw c.in-Marked.is at c.requires.fits in
    omega (arith, length-append c.in-Marked.sign.now c.in-Marked.run'.now)

pub overflow_add-behind-in-Marked : goal.overflow_add-behind-in-Marked
overflow_add-behind-in-Marked c =
    let fits = rw c.in-Marked.is at c.requires.fits in
    omega (arith, length-append c.in-Marked.sign.now c.in-Marked.run'.now)

pub digit_refusal-requires-clause-fits : goal.digit_refusal-requires-clause-fits
digit_refusal-requires-clause-fits c =
    let fits = rw c.in-Marked.is at c.requires.fits in
    omega (arith, length-append c.in-Marked.sign.now c.in-Marked.run'.now)

pub returns-else-ends_at_mark-clause-value : goal.returns-else-ends_at_mark-clause-value
returns-else-ends_at_mark-clause-value c =
    let form = rw c.in-Marked.is at c.requires.form in
    let more : length c.in-Marked.sign.now + (length c.in-Marked.run'.now + length (rest c.args.input.now)) ≡ 0 → ⊥ = λ ends. let no = sym c.if-ends_at_mark.false ∙ c.ends_at_mark.ensures.1 ends in cc in
    let P : Option ErrorView → Type 0 = λ found. IfOk c.digit_refusal.result (λ r. option_map error_view r ≡ found) in
    rw c.in-Marked.is (subst P (sym (mark_followed c.args.start.0 c.in-Marked.mark c.in-Marked.sign.now c.in-Marked.run'.now (rest c.args.input.now) form.0 form.1 more)) c.digit_refusal.ensures.value)
