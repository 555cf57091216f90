use Rattle.std.proofs.Common.{length, drop, refl, sym, ap, ◌∙◌, arith, length-append}
use Rattle.ecma_place.specs.Cursor.{rest}
use Rattle.ecma_token.specs.declared.token.Radix.TheVariants.{Decimal}
use Rattle.ecma_grammar.specs.Numbers.{run_of, sign, exponent_text}
use Rattle.ecma_number.proofs.NumberReading.{moved-on, exponent-marked}
use Rattle.ecma_number.proofs.number.parts.read_exponent.Goals as goal
use Rattle.ecma_grammar.proofs.SignLemmas.{rest-behind}

pub returns-in-Some-clause-value : goal.returns-in-Some-clause-value
returns-in-Some-clause-value c =
    let text = rest c.args.input.now in
    let one = rest-behind _ _ 1 c.bump.ensures in
    let signed = c.read_sign-sign.ensures.text ∙ ap sign one in
    let more = rest-behind _ _ _ c.read_sign-sign.ensures.moved in
    rw (exponent-marked text c.in-Some.mark (sym c.in-Some.ensures.first) (sym c.is_exponent_mark.ensures ∙ c.if-is_exponent_mark.true), c.read_run.ensures.text, signed, more, one) refl

pub returns-in-Some-clause-moved : goal.returns-in-Some-clause-moved
returns-in-Some-clause-moved c =
    let text = rest c.args.input.now in
    let one = rest-behind _ _ 1 c.bump.ensures in
    let more = rest-behind _ _ _ c.read_sign-sign.ensures.moved in
    let found = ap (λ e. length (exponent_text e)) (exponent-marked text c.in-Some.mark (sym c.in-Some.ensures.first) (sym c.is_exponent_mark.ensures ∙ c.if-is_exponent_mark.true)) in
    let run = ap (λ t. length (run_of Decimal t)) (more ∙ ap (λ t. drop (length (sign t)) t) one) in
    let signs = ap (λ t. length (sign t)) one in
    let sum = length-append (sign (drop 1 text)) (run_of Decimal (drop (length (sign (drop 1 text))) (drop 1 text))) in
    moved-on _ _ _ _ _ _ (moved-on _ _ _ 1 _ _ c.bump.ensures c.read_sign-sign.ensures.moved refl) c.read_run.ensures.moved (omega (arith, found, run, signs, sum))
