use Rattle.ecma_scan.proofs.ExpressionLaws.{expression_is_local}
use Rattle.ecma_laws.proofs.laws.expressions.expression_is_local.Goals as goal

pub returns : goal.returns
returns c = expression_is_local
