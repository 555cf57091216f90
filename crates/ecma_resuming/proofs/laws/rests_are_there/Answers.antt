use Rattle.ecma_resuming.proofs.RestLemmas.{rests_are_there}
use Rattle.ecma_resuming.proofs.laws.rests_are_there.Goals as goal

pub returns : goal.returns
returns c = rests_are_there
