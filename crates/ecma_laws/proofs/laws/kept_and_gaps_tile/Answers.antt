use Rattle.ecma_laws.proofs.GapTiling.{tiles}
use Rattle.ecma_laws.proofs.laws.kept_and_gaps_tile.Goals as goal

pub returns : goal.returns
returns c = tiles
