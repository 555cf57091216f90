use Rattle.ecma_scan.proofs.BarsLaws.{bars_tile}
use Rattle.ecma_laws.proofs.laws.gaps.bars_tile.Goals as goal

pub returns : goal.returns
returns c = bars_tile
