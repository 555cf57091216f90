use Rattle.ecma_scan.proofs.ExpressionLaws.{first_slash_is_local}
use Rattle.ecma_laws.proofs.laws.expressions.first_slash_is_local.Goals as goal

pub returns : goal.returns
returns c = first_slash_is_local
