use Rattle.std.proofs.Common.{◌<◌, ◌+◌, ◌∙◌, ap, sym, refl, length}
use Rattle.std.proofs.Common.{rules}
use Rattle.std.specs.Str.Parse.{digits_value}
use Rattle.ecma_place.specs.Cursor.{rest}
use Rattle.ecma_grammar.specs.Fronts.{after, next_is}
use Rattle.ecma_grammar.specs.Escapes.{hex_front, is_hex_digit}
use Rattle.ecma_escape.proofs.EscapeReading.{hex-digits}
use Rattle.ecma_escape.proofs.EscapeForms.{braced_code, braced_open, point-some, eaten-is, hex-rest, moved-less, passed-both}
use Rattle.ecma_escape.proofs.escape.braced_escape.Goals as goal

pub code_point-requires-clause-digits : goal.code_point-requires-clause-digits
code_point-requires-clause-digits c = rw c.hex_run-digits.ensures.text (hex-digits (rest c.args.input.now))

pub returns-then-eat_byte-clause-answer : goal.returns-then-eat_byte-clause-answer
returns-then-eat_byte-clause-answer c within =
    let text = rest c.args.input.now in
    let some : 0 < length c.hex_run-digits.result.now = search rules in
    let long : 0 < length (hex_front text) = rw c.hex_run-digits.ensures.text at some in
    let point = rw c.hex_run-digits.ensures.text at c.in-Some.ensures in
    let found = point-some (digits_value 16 (hex_front text)) c.in-Some.code point in
    let brace = sym (eaten-is c.eat_byte.result 125 _ c.eat_byte.ensures.value ∙ ap (next_is 125) (hex-rest _ _ c.hex_run-digits.ensures.moved)) ∙ c.if-eat_byte.true in
    (braced_code within (hex_front text) (after is_hex_digit text) c.in-Some.code c.code_escape.result long found.0 brace found.1 c.code_escape.ensures).0

pub returns-then-eat_byte-clause-moved : goal.returns-then-eat_byte-clause-moved
returns-then-eat_byte-clause-moved c within =
    let text = rest c.args.input.now in
    let some : 0 < length c.hex_run-digits.result.now = search rules in
    let long : 0 < length (hex_front text) = rw c.hex_run-digits.ensures.text at some in
    let point = rw c.hex_run-digits.ensures.text at c.in-Some.ensures in
    let found = point-some (digits_value 16 (hex_front text)) c.in-Some.code point in
    let brace = sym (eaten-is c.eat_byte.result 125 _ c.eat_byte.ensures.value ∙ ap (next_is 125) (hex-rest _ _ c.hex_run-digits.ensures.moved)) ∙ c.if-eat_byte.true in
    let size = (braced_code within (hex_front text) (after is_hex_digit text) c.in-Some.code c.code_escape.result long found.0 brace found.1 c.code_escape.ensures).1 in
    let ate = rw c.if-eat_byte.true at c.eat_byte.ensures.moved in
    let all = passed-both _ _ _ (length (hex_front text)) 1 (length (hex_front text) + 1) c.hex_run-digits.ensures.moved ate refl in
    moved-less _ _ (length (hex_front text) + 1) _ 3 all size

pub returns-else-eat_byte-clause-answer : goal.returns-else-eat_byte-clause-answer
returns-else-eat_byte-clause-answer c within =
    let text = rest c.args.input.now in
    let some : 0 < length c.hex_run-digits.result.now = search rules in
    let long : 0 < length (hex_front text) = rw c.hex_run-digits.ensures.text at some in
    let point = rw c.hex_run-digits.ensures.text at c.in-Some.ensures in
    let found = point-some (digits_value 16 (hex_front text)) c.in-Some.code point in
    let brace = sym (eaten-is c.eat_byte.result 125 _ c.eat_byte.ensures.value ∙ ap (next_is 125) (hex-rest _ _ c.hex_run-digits.ensures.moved)) ∙ c.if-eat_byte.false in
    (braced_open within (hex_front text) (after is_hex_digit text) long found.0 brace).0

pub returns-else-eat_byte-clause-moved : goal.returns-else-eat_byte-clause-moved
returns-else-eat_byte-clause-moved c within =
    let text = rest c.args.input.now in
    let some : 0 < length c.hex_run-digits.result.now = search rules in
    let long : 0 < length (hex_front text) = rw c.hex_run-digits.ensures.text at some in
    let point = rw c.hex_run-digits.ensures.text at c.in-Some.ensures in
    let found = point-some (digits_value 16 (hex_front text)) c.in-Some.code point in
    let brace = sym (eaten-is c.eat_byte.result 125 _ c.eat_byte.ensures.value ∙ ap (next_is 125) (hex-rest _ _ c.hex_run-digits.ensures.moved)) ∙ c.if-eat_byte.false in
    let size = (braced_open within (hex_front text) (after is_hex_digit text) long found.0 brace).1 in
    let stays = rw c.if-eat_byte.false at c.eat_byte.ensures.moved in
    moved-less _ _ (length (hex_front text)) _ 3 (stays ∙ c.hex_run-digits.ensures.moved) size
