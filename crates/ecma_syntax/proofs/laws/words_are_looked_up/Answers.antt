use Rattle.ecma_word.proofs.Words.{words_are_looked_up}
use Rattle.ecma_syntax.proofs.laws.words_are_looked_up.Goals as goal

pub returns : goal.returns
returns c = words_are_looked_up
