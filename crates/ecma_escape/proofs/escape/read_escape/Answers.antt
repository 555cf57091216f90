use Rattle.std.proofs.Common.{◌≤◌, ◌∙◌, ap, sym, refl, length, drop, arith, slice_get}
use Rattle.ecma_place.specs.Cursor.{rest, passed}
use Rattle.ecma_grammar.specs.Fronts.{next_is}
use Rattle.ecma_grammar.specs.Escapes.{escape_behind, escape_of, lead, escape_spelling, unicode_escape}
use Rattle.ecma_escape.specs.EscapeMeanings.{use_of}
use Rattle.ecma_escape.specs.declared.escape.Meaning.TheVariants as answer
use Rattle.ecma_escape.specs.declared.escape.Refusal.TheVariants as because
use Rattle.ecma_grammar.proofs.EscapeLaws.{unicode_size, escape_some}
use Rattle.ecma_escape.proofs.EscapeForms.{eaten-is, at-letter, at-other, at-end, in-word, not-first, answers-whole, onward, onward-all}
use Rattle.ecma_grammar.proofs.SignLemmas.{rest-behind}
use Rattle.ecma_escape.proofs.escape.read_escape.Goals as goal

pub returns-then-eat_byte-clause-answer : goal.returns-then-eat_byte-clause-answer
returns-then-eat_byte-clause-answer c =
    let within = use_of c.args.within in
    let text = drop 1 (rest c.args.input.now) in
    let here = rest-behind c.args.input.now c.bump.new.self 1 c.bump.ensures in
    let letter = sym (eaten-is c.eat_byte.result 117 (rest c.bump.new.self) c.eat_byte.ensures.value ∙ ap (next_is 117) here) ∙ c.if-eat_byte.true in
    let ate = rw c.if-eat_byte.true at c.eat_byte.ensures.moved in
    let behind = rest-behind c.bump.new.self c.eat_byte.new.self 1 ate ∙ ap (drop 1) here in
    answers-whole within c.unicode_escape.result (unicode_escape within (rest c.eat_byte.new.self)) (escape_behind within text)
    (at-letter within text (rest c.eat_byte.new.self) letter behind) (c.unicode_escape.ensures.answer within)

pub returns-then-eat_byte-clause-moved : goal.returns-then-eat_byte-clause-moved
returns-then-eat_byte-clause-moved c =
    let within = use_of c.args.within in
    let text = drop 1 (rest c.args.input.now) in
    let here = rest-behind c.args.input.now c.bump.new.self 1 c.bump.ensures in
    let letter = sym (eaten-is c.eat_byte.result 117 (rest c.bump.new.self) c.eat_byte.ensures.value ∙ ap (next_is 117) here) ∙ c.if-eat_byte.true in
    let ate = rw c.if-eat_byte.true at c.eat_byte.ensures.moved in
    let behind = rest-behind c.bump.new.self c.eat_byte.new.self 1 ate ∙ ap (drop 1) here in
    let part = unicode_escape within (rest c.eat_byte.new.self) in
    let same = at-letter within text (rest c.eat_byte.new.self) letter behind in
    let long : 1 ≤ length (escape_spelling (escape_behind within text)) = omega (arith, escape_some within text) in
    onward-all c.args.input.now c.bump.new.self c.unicode_escape.new.input (escape_behind within text) (escape_behind within text) refl c.bump.ensures
    (onward c.bump.new.self c.eat_byte.new.self c.unicode_escape.new.input part (escape_behind within text) 1 same ate (c.unicode_escape.ensures.moved within) (unicode_size within (rest c.eat_byte.new.self)))
    long

pub returns-then-is_word-clause-answer : goal.returns-then-is_word-clause-answer
returns-then-is_word-clause-answer c =
    let within = use_of c.args.within in
    let text = drop 1 (rest c.args.input.now) in
    let here = rest-behind c.args.input.now c.bump.new.self 1 c.bump.ensures in
    let letter = sym (eaten-is c.eat_byte.result 117 (rest c.bump.new.self) c.eat_byte.ensures.value ∙ ap (next_is 117) here) ∙ c.if-eat_byte.false in
    let word = sym c.is_word.ensures ∙ c.if-is_word.true in
    answers-whole within (answer.Refused because.NoCodePoint) _ (escape_behind within text) (in-word c.args.within text word letter) refl

pub returns-then-is_word-clause-moved : goal.returns-then-is_word-clause-moved
returns-then-is_word-clause-moved c =
    let within = use_of c.args.within in
    let text = drop 1 (rest c.args.input.now) in
    let here = rest-behind c.args.input.now c.bump.new.self 1 c.bump.ensures in
    let letter = sym (eaten-is c.eat_byte.result 117 (rest c.bump.new.self) c.eat_byte.ensures.value ∙ ap (next_is 117) here) ∙ c.if-eat_byte.false in
    let word = sym c.is_word.ensures ∙ c.if-is_word.true in
    let stays = rw c.if-eat_byte.false at c.eat_byte.ensures.moved in
    stays ∙ c.bump.ensures ∙ ap (λ e. passed (length (escape_spelling e)) c.args.input.now) (in-word c.args.within text word letter)

pub returns-in-None-clause-answer : goal.returns-in-None-clause-answer
returns-in-None-clause-answer c =
    let within = use_of c.args.within in
    let text = drop 1 (rest c.args.input.now) in
    let here = rest-behind c.args.input.now c.bump.new.self 1 c.bump.ensures in
    let stays = rw c.if-eat_byte.false at c.eat_byte.ensures.moved in
    let there = ap rest stays ∙ here in
    let end = ap (λ t. slice_get t 0) (sym there) ∙ sym c.in-None.ensures.first in
    let word = sym c.is_word.ensures ∙ c.if-is_word.false in
    answers-whole within (answer.Refused because.AtEnd) _ (escape_behind within text) (at-end c.args.within text end word) refl

pub returns-in-None-clause-moved : goal.returns-in-None-clause-moved
returns-in-None-clause-moved c =
    let within = use_of c.args.within in
    let text = drop 1 (rest c.args.input.now) in
    let here = rest-behind c.args.input.now c.bump.new.self 1 c.bump.ensures in
    let stays = rw c.if-eat_byte.false at c.eat_byte.ensures.moved in
    let there = ap rest stays ∙ here in
    let end = ap (λ t. slice_get t 0) (sym there) ∙ sym c.in-None.ensures.first in
    let word = sym c.is_word.ensures ∙ c.if-is_word.false in
    stays ∙ c.bump.ensures ∙ ap (λ e. passed (length (escape_spelling e)) c.args.input.now) (at-end c.args.within text end word)

pub escape_at-requires-clause-other : goal.escape_at-requires-clause-other
escape_at-requires-clause-other c =
    let stays = rw c.if-eat_byte.false at c.eat_byte.ensures.moved in
    let letter = sym (eaten-is c.eat_byte.result 117 (rest c.bump.new.self) c.eat_byte.ensures.value) ∙ c.if-eat_byte.false in
    not-first (rest c.bump.new.self) c.in-Some.first 117 (c.in-Some.ensures.first ∙ ap (λ t. slice_get (rest t) 0) stays) letter

pub returns-in-Some-clause-answer : goal.returns-in-Some-clause-answer
returns-in-Some-clause-answer c =
    let within = use_of c.args.within in
    let text = drop 1 (rest c.args.input.now) in
    let first = c.in-Some.first in
    let here = rest-behind c.args.input.now c.bump.new.self 1 c.bump.ensures in
    let stays = rw c.if-eat_byte.false at c.eat_byte.ensures.moved in
    let there = ap rest stays ∙ here in
    let at = ap (λ t. slice_get t 0) (sym there) ∙ sym c.in-Some.ensures.first in
    let part = escape_of within (lead first) first (drop 1 (rest c.eat_byte.new.self)) in
    let same = ap (λ t. escape_of within (lead first) first (drop 1 t)) there ∙ at-other within text first at in
    answers-whole within c.escape_at.result part (escape_behind within text) same c.escape_at.ensures.answer

pub returns-in-Some-clause-moved : goal.returns-in-Some-clause-moved
returns-in-Some-clause-moved c =
    let within = use_of c.args.within in
    let text = drop 1 (rest c.args.input.now) in
    let first = c.in-Some.first in
    let here = rest-behind c.args.input.now c.bump.new.self 1 c.bump.ensures in
    let stays = rw c.if-eat_byte.false at c.eat_byte.ensures.moved in
    let there = ap rest stays ∙ here in
    let at = ap (λ t. slice_get t 0) (sym there) ∙ sym c.in-Some.ensures.first in
    let part = escape_of within (lead first) first (drop 1 (rest c.eat_byte.new.self)) in
    let same = ap (λ t. escape_of within (lead first) first (drop 1 t)) there ∙ at-other within text first at in
    let size = ap (λ e. length (escape_spelling e)) same in
    let long : 1 ≤ length (escape_spelling part) = omega (arith, escape_some within text, size) in
    onward-all c.args.input.now c.eat_byte.new.self c.escape_at.new.input part (escape_behind within text) same (stays ∙ c.bump.ensures) c.escape_at.ensures.moved long
