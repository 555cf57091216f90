use Rattle.ecma_lanes.proofs.LaneLemmas.{first_of_16}
use Rattle.ecma_place.proofs.run.lanes_before.Goals as goal

pub returns : goal.returns
returns c = λ p v long is. rw is (first_of_16 p v long)
