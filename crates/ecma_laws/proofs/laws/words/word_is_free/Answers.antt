use Rattle.ecma_laws.proofs.FreeLemmas.{name_is_free}
use Rattle.ecma_laws.proofs.laws.words.word_is_free.Goals as goal

pub returns : goal.returns
returns c = name_is_free
