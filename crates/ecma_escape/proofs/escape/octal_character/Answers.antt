use Rattle.std.proofs.Common.{◌≡◌, ◌<◌, ◌∙◌, ap, take, length, arith}
use Rattle.std.specs.Str.Parse.{digits_value}
use Rattle.ecma_place.specs.Cursor.{rest, passed}
use Rattle.ecma_grammar.specs.Escapes.{octal_front, octal_digits}
use Rattle.ecma_escape.specs.EscapeMeanings.{digit_front}
use Rattle.ecma_escape.proofs.EscapeReading.{front-digits}
use Rattle.ecma_escape.proofs.EscapeForms.{octal-low, octal-high, parsed_is-ok, parsed_is-value}
use Rattle.ecma_escape.proofs.escape.octal_character.Goals.{then-first-le51, else-first-le51}
use Rattle.ecma_escape.proofs.escape.octal_character.Goals as goal

pub unwrap-requires : goal.unwrap-requires
unwrap-requires c =
    let text = rest c.args.input.now in
    let most = c.if-first-le51.most in
    let found : (take most (octal_front text) ≡ octal_digits text) × (digits_value 8 (take most (octal_front text)) < 256) × (0 < length (take most (octal_front text))) =
    elim c.if-first-le51.branch [
      | then-first-le51 w ↦ octal-low text c.args.first most c.requires.first c.requires.digit (omega arith) w.most-is
      | else-first-le51 w ↦ octal-high text c.args.first most c.requires.first c.requires.digit (omega arith) w.most-is
    ] in
    let parsed = rw c.some_digits-digits.ensures.text at c.from_str_radix.ensures.value in
    parsed_is-ok 8 8 (digit_front 8 most text) c.from_str_radix.result (omega arith) (front-digits 8 most text) parsed found.2 (omega (arith, found.1))

pub returns-clause-value : goal.returns-clause-value
returns-clause-value c =
    let text = rest c.args.input.now in
    let most = c.if-first-le51.most in
    let found : (take most (octal_front text) ≡ octal_digits text) × (digits_value 8 (take most (octal_front text)) < 256) × (0 < length (take most (octal_front text))) =
    elim c.if-first-le51.branch [
      | then-first-le51 w ↦ octal-low text c.args.first most c.requires.first c.requires.digit (omega arith) w.most-is
      | else-first-le51 w ↦ octal-high text c.args.first most c.requires.first c.requires.digit (omega arith) w.most-is
    ] in
    let parsed = rw c.some_digits-digits.ensures.text at c.from_str_radix.ensures.value in
    c.from.ensures ∙ parsed_is-value 8 8 (digit_front 8 most text) c.from_str_radix.result c.unwrap.result (omega arith) (front-digits 8 most text) parsed c.unwrap.ensures ∙ ap (digits_value 8) found.0

pub returns-clause-moved : goal.returns-clause-moved
returns-clause-moved c =
    let text = rest c.args.input.now in
    let most = c.if-first-le51.most in
    let found : (take most (octal_front text) ≡ octal_digits text) × (digits_value 8 (take most (octal_front text)) < 256) × (0 < length (take most (octal_front text))) =
    elim c.if-first-le51.branch [
      | then-first-le51 w ↦ octal-low text c.args.first most c.requires.first c.requires.digit (omega arith) w.most-is
      | else-first-le51 w ↦ octal-high text c.args.first most c.requires.first c.requires.digit (omega arith) w.most-is
    ] in
    c.some_digits-digits.ensures.moved ∙ ap (λ ds. passed (length ds) c.args.input.now) found.0
