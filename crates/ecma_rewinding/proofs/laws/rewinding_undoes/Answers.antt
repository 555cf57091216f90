use Rattle.ecma_rewinding.proofs.RewindingLemmas.{rewinding_undoes}
use Rattle.ecma_rewinding.proofs.laws.rewinding_undoes.Goals as goal

pub returns : goal.returns
returns c = rewinding_undoes
