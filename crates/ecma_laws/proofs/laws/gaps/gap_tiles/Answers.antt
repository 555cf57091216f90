use Rattle.ecma_scan.proofs.GapLaws.{gap_tiles}
use Rattle.ecma_laws.proofs.laws.gaps.gap_tiles.Goals as goal

pub returns : goal.returns
returns c = gap_tiles
