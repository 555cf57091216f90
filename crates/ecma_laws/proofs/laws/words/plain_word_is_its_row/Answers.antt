use Rattle.ecma_scan.proofs.WordLaws.{plain_word_is_its_row}
use Rattle.ecma_laws.proofs.laws.words.plain_word_is_its_row.Goals as goal

pub returns : goal.returns
returns c = plain_word_is_its_row
