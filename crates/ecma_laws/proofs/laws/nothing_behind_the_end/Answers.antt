use Rattle.ecma_laws.proofs.NothingLemmas.{nothing_behind_the_end}
use Rattle.ecma_laws.proofs.laws.nothing_behind_the_end.Goals as goal

pub returns : goal.returns
returns c = nothing_behind_the_end
