use Rattle.ecma_scan.proofs.StringLaws.{string_tiles}
use Rattle.ecma_laws.proofs.laws.strings.string_tiles.Goals as goal

pub returns : goal.returns
returns c = string_tiles
