use Rattle.std.proofs.Common.{◌≡◌, length, ◌∙◌, arith}
use Rattle.std.proofs.lemmas.Bool.Decides.{nat_tests}
use Rattle.ecma_place.specs.Cursor.{rest}
use Rattle.ecma_escape.specs.EscapeMeanings.{digit_front}
use Rattle.ecma_escape.proofs.EscapeReading.{parsed-ok, parsed-err, front-digits}
use Rattle.ecma_escape.proofs.EscapeForms.{four_accepts, four_refuses, short_value}
use Rattle.ecma_escape.proofs.escape.four_escape.Goals as goal

pub returns-in-Ok-clause-answer : goal.returns-in-Ok-clause-answer
returns-in-Ok-clause-answer c within =
    let text = rest c.args.input.now in
    let parsed = rw c.some_digits-digits.ensures.text at c.in-Ok.ensures.value in
    let four = rw c.some_digits-digits.ensures.text at c.if-digits-eq4.true in
    let long : length (digit_front 16 4 text) ≡ 4 = grind (arith, nat_tests) in
    (four_accepts within (digit_front 16 4 text) c.from.result c.code_escape.result long (c.from.ensures ∙ parsed-ok 16 16 _ (digit_front 16 4 text) (omega arith) (front-digits 16 4 text) parsed) c.code_escape.ensures).0

pub returns-in_default-2-clause-answer : goal.returns-in_default-2-clause-answer
returns-in_default-2-clause-answer c within =
    let text = rest c.args.input.now in
    let parsed = rw c.some_digits-digits.ensures.text at c.in_default.ensures.value in
    (four_refuses within (digit_front 16 4 text) (λ long.
    parsed-err 16 16 (digit_front 16 4 text) (omega arith) (front-digits 16 4 text) parsed (omega arith)
    (short_value 16 4 (digit_front 16 4 text) (front-digits 16 4 text) long (omega arith)))).0
