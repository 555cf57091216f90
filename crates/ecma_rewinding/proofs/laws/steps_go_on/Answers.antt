use Rattle.ecma_rewinding.proofs.RewindingLemmas.{steps_go_on}
use Rattle.ecma_rewinding.proofs.laws.steps_go_on.Goals as goal

pub returns : goal.returns
returns c = steps_go_on
