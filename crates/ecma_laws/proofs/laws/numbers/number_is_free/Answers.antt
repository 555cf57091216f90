use Rattle.ecma_laws.proofs.FreeLemmas.{number_is_free}
use Rattle.ecma_laws.proofs.laws.numbers.number_is_free.Goals as goal

pub returns : goal.returns
returns c = number_is_free
