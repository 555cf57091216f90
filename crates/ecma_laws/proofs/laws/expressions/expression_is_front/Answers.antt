use Rattle.ecma_scan.proofs.ExpressionLaws.{expression_is_front}
use Rattle.ecma_laws.proofs.laws.expressions.expression_is_front.Goals as goal

pub returns : goal.returns
returns c = expression_is_front
