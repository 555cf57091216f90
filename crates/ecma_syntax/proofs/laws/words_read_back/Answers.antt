use Rattle.ecma_word.proofs.Words.{words_read_back}
use Rattle.ecma_syntax.proofs.laws.words_read_back.Goals as goal

pub returns : goal.returns
returns c = words_read_back
