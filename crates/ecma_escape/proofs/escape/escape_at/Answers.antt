use Rattle.std.proofs.Common.{◌≤◌, ◌+◌, length, drop, arith}
use Rattle.ecma_place.specs.Cursor.{rest}
use Rattle.ecma_grammar.specs.Escapes.{hex_escape, escape_spelling}
use Rattle.ecma_escape.specs.EscapeMeanings.{use_of, digit_front}
use Rattle.ecma_grammar.proofs.EscapeLaws.{hex_size}
use Rattle.ecma_escape.proofs.EscapeForms.{hex-of, answers-whole, onward}
use Rattle.ecma_grammar.proofs.SignLemmas.{rest-behind}
use Rattle.ecma_escape.proofs.escape.escape_at.Goals as goal

pub returns-then-first-eq120-clause-answer : goal.returns-then-first-eq120-clause-answer
returns-then-first-eq120-clause-answer c =
    let same = hex-of c.args.within c.args.first (drop 1 (rest c.args.input.now)) _ c.requires.within c.if-first-eq120.true (rest-behind _ _ 1 c.bump.ensures) in
    answers-whole _ _ _ _ same (c.hex_escape.ensures.answer (use_of c.args.within))

pub returns-then-first-eq120-clause-moved : goal.returns-then-first-eq120-clause-moved
returns-then-first-eq120-clause-moved c =
    let same = hex-of c.args.within c.args.first (drop 1 (rest c.args.input.now)) _ c.requires.within c.if-first-eq120.true (rest-behind _ _ 1 c.bump.ensures) in
    let long : 1 + 1 ≤ length (escape_spelling (hex_escape (digit_front 16 2 (rest c.bump.new.self)))) = omega (arith, hex_size (digit_front 16 2 (rest c.bump.new.self))) in
    onward _ _ _ _ _ 1 same c.bump.ensures c.hex_escape.ensures.moved long
