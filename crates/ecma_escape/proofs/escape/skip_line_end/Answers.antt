use Rattle.std.proofs.Common.{eq-eqb}
use Rattle.ecma_escape.proofs.EscapeForms.{eaten-is, line_end-moved}
use Rattle.ecma_escape.proofs.escape.skip_line_end.Goals as goal

pub returns-then-first-eq13 : goal.returns-then-first-eq13
returns-then-first-eq13 c =
    line_end-moved _ _ _ c.args.first c.eat_byte.result c.bump.ensures (eq-eqb _ 13 c.if-first-eq13.true) (eaten-is _ 10 _ c.eat_byte.ensures.value) c.eat_byte.ensures.moved
