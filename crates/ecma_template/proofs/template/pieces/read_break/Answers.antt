use Rattle.std.proofs.Common.{drop, ap, ◌∙◌, eq-eqb}
use Rattle.ecma_place.specs.Cursor.{rest}
use Rattle.ecma_grammar.specs.Fronts.{next_is}
use Rattle.ecma_escape.proofs.EscapeForms.{eaten-is, line_end-moved}
use Rattle.ecma_grammar.proofs.SignLemmas.{rest-behind}
use Rattle.ecma_template.proofs.TemplatePieces.{return_piece}
use Rattle.ecma_template.proofs.template.pieces.read_break.Goals as goal

pub returns-then-c-eq13-clause-value : goal.returns-then-c-eq13-clause-value
returns-then-c-eq13-clause-value c =
    let text = rest c.args.input.now in
    let ate = eaten-is _ 10 _ c.eat_byte.ensures.value ∙ ap (next_is 10) (rest-behind _ _ 1 c.bump.ensures) in
    λ spelling. return_piece spelling c.args.c (drop 1 text) c.eat_byte.result (eq-eqb _ 13 c.if-c-eq13.true) c.if-c-eq13.true ate

pub returns-then-c-eq13-clause-moved : goal.returns-then-c-eq13-clause-moved
returns-then-c-eq13-clause-moved c =
    line_end-moved _ _ _ c.args.c c.eat_byte.result c.bump.ensures (eq-eqb _ 13 c.if-c-eq13.true) (eaten-is _ 10 _ c.eat_byte.ensures.value) c.eat_byte.ensures.moved
