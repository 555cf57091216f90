use Rattle.std.proofs.Common.{sym, ◌∙◌}
use Rattle.ecma_regexp.proofs.ExpressionPieces.{body_step, body_end, body_line}
use Rattle.ecma_regexp.proofs.expression.skip_body.Goals as goal

pub pieces-preserved : goal.pieces-preserved
pieces-preserved c = (body_step _ _ _ c.skip_piece.ensures.value c.pieces-test.true c.skip_piece.ensures.moved).same_end ∙ c.pieces.invariant

pub returns-clause-line : goal.returns-clause-line
returns-clause-line c =
    let there = sym (body_end c.pieces.input _ c.skip_piece.ensures.value c.pieces-test.false) ∙ c.pieces.invariant in
    λ slash. c.read_line.ensures.moved ∙ c.skip_piece.ensures.line c.pieces-test.false ∙ body_line c.args.input.now c.pieces.input there
