use Rattle.ecma_scan.proofs.WordLaws.{word_is_its_row}
use Rattle.ecma_laws.proofs.laws.words.word_is_its_row.Goals as goal

pub returns : goal.returns
returns c = word_is_its_row
