use Rattle.ecma_scan.proofs.NumberLaws.{number_tiles}
use Rattle.ecma_laws.proofs.laws.numbers.number_tiles.Goals as goal

pub returns : goal.returns
returns c = number_tiles
