use Rattle.ecma_scan.proofs.WordLaws.{word_tiles}
use Rattle.ecma_laws.proofs.laws.words.word_tiles.Goals as goal

pub returns : goal.returns
returns c = word_tiles
