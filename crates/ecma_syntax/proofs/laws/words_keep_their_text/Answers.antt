use Rattle.ecma_word.proofs.Words.{words_keep_their_text}
use Rattle.ecma_syntax.proofs.laws.words_keep_their_text.Goals as goal

pub returns : goal.returns
returns c = words_keep_their_text
