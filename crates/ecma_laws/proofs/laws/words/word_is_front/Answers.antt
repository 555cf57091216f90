use Rattle.ecma_scan.proofs.WordLaws.{word_is_front}
use Rattle.ecma_laws.proofs.laws.words.word_is_front.Goals as goal

pub returns : goal.returns
returns c = word_is_front
