use Rattle.std.proofs.Common.{length, sym, ap, ◌∙◌, arith}
use Rattle.ecma_place.specs.Cursor.{rest}
use Rattle.ecma_token.specs.declared.token.Radix.TheVariants.{Decimal}
use Rattle.ecma_grammar.specs.Numbers.{Point, run_of, fraction_text}
use Rattle.ecma_number.proofs.NumberReading.{moved-on, fraction-point}
use Rattle.ecma_number.proofs.number.parts.read_fraction.Goals as goal
use Rattle.ecma_grammar.proofs.SignLemmas.{rest-behind}

pub returns-then-eat_byte-clause-value : goal.returns-then-eat_byte-clause-value
returns-then-eat_byte-clause-value c =
    let text = rest c.args.input.now in
    ap Point (c.read_run.ensures.text ∙ ap (run_of Decimal) (rest-behind _ _ 1 c.if-eat_byte.ensures.moved)) ∙ sym (fraction-point text (c.eat_byte.ensures.value.0 c.if-eat_byte.true))

pub returns-then-eat_byte-clause-moved : goal.returns-then-eat_byte-clause-moved
returns-then-eat_byte-clause-moved c =
    let text = rest c.args.input.now in
    let behind = rest-behind _ _ 1 c.if-eat_byte.ensures.moved in
    let found = ap (λ f. length (fraction_text f)) (fraction-point text (c.eat_byte.ensures.value.0 c.if-eat_byte.true)) in
    let run = ap (λ t. length (run_of Decimal t)) behind in
    moved-on _ _ _ 1 _ _ c.if-eat_byte.ensures.moved c.read_run.ensures.moved (omega (arith, found, run))
