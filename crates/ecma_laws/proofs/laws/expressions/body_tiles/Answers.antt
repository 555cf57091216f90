use Rattle.ecma_scan.proofs.ExpressionLaws.{body_tiles}
use Rattle.ecma_laws.proofs.laws.expressions.body_tiles.Goals as goal

pub returns : goal.returns
returns c = body_tiles
