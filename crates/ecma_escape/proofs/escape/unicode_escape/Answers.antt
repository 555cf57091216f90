use Rattle.std.proofs.Common.{◌∙◌, sym}
use Rattle.ecma_place.specs.Cursor.{rest}
use Rattle.ecma_grammar.specs.Escapes.{hex_front, is_hex_digit, braced_escape, four_escape, unicode_escape}
use Rattle.ecma_grammar.specs.Fronts.{after}
use Rattle.ecma_escape.specs.EscapeMeanings.{digit_front}
use Rattle.ecma_escape.proofs.EscapeForms.{unicode-braced, unicode-four, eaten-is, answers-whole, onward, braced_long, same-move}
use Rattle.ecma_grammar.proofs.SignLemmas.{rest-behind}
use Rattle.ecma_escape.proofs.escape.unicode_escape.Goals as goal

pub returns-then-eat_byte-clause-answer : goal.returns-then-eat_byte-clause-answer
returns-then-eat_byte-clause-answer c within =
    let text = rest c.args.input.now in
    let behind = rest c.eat_byte.new.self in
    let brace = sym (eaten-is c.eat_byte.result 123 text c.eat_byte.ensures.value) ∙ c.if-eat_byte.true in
    let ate = rw c.if-eat_byte.true at c.eat_byte.ensures.moved in
    answers-whole within c.braced_escape.result (braced_escape within (hex_front behind) (after is_hex_digit behind)) (unicode_escape within text)
    (unicode-braced within text behind brace (rest-behind c.args.input.now c.eat_byte.new.self 1 ate)) (c.braced_escape.ensures.answer within)

pub returns-then-eat_byte-clause-moved : goal.returns-then-eat_byte-clause-moved
returns-then-eat_byte-clause-moved c within =
    let text = rest c.args.input.now in
    let behind = rest c.eat_byte.new.self in
    let brace = sym (eaten-is c.eat_byte.result 123 text c.eat_byte.ensures.value) ∙ c.if-eat_byte.true in
    let ate = rw c.if-eat_byte.true at c.eat_byte.ensures.moved in
    onward c.args.input.now c.eat_byte.new.self c.braced_escape.new.input (braced_escape within (hex_front behind) (after is_hex_digit behind)) (unicode_escape within text) 2
    (unicode-braced within text behind brace (rest-behind c.args.input.now c.eat_byte.new.self 1 ate)) ate (c.braced_escape.ensures.moved within) (braced_long within (hex_front behind) (after is_hex_digit behind))

pub returns-else-eat_byte-clause-answer : goal.returns-else-eat_byte-clause-answer
returns-else-eat_byte-clause-answer c within =
    let text = rest c.args.input.now in
    let brace = sym (eaten-is c.eat_byte.result 123 text c.eat_byte.ensures.value) ∙ c.if-eat_byte.false in
    let stays = rw c.if-eat_byte.false at c.eat_byte.ensures.moved in
    let answer = c.four_escape.ensures.answer within in
    answers-whole within c.four_escape.result (four_escape within (digit_front 16 4 text)) (unicode_escape within text)
    (unicode-four within text brace) (rw stays at answer)

pub returns-else-eat_byte-clause-moved : goal.returns-else-eat_byte-clause-moved
returns-else-eat_byte-clause-moved c within =
    let text = rest c.args.input.now in
    let brace = sym (eaten-is c.eat_byte.result 123 text c.eat_byte.ensures.value) ∙ c.if-eat_byte.false in
    let stays = rw c.if-eat_byte.false at c.eat_byte.ensures.moved in
    let moved = c.four_escape.ensures.moved within in
    same-move c.args.input.now c.four_escape.new.input 2 (four_escape within (digit_front 16 4 text)) (unicode_escape within text)
    (unicode-four within text brace) (rw stays at moved)
