use Rattle.ecma_scan.proofs.ExpressionForms.{expression_is_read}
use Rattle.ecma_laws.proofs.laws.expressions.expression_is_read.Goals as goal

pub returns : goal.returns
returns c = expression_is_read
