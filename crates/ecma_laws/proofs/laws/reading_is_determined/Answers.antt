use Rattle.ecma_laws.proofs.DeterminedLemmas.{reading_is_determined}
use Rattle.ecma_laws.proofs.laws.reading_is_determined.Goals as goal

pub returns : goal.returns
returns c = reading_is_determined
