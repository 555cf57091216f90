use Rattle.ecma_stored.proofs.StoredLemmas.{checkpoints_are_told_apart}
use Rattle.ecma_stored.proofs.laws.checkpoints_are_told_apart.Goals as goal

pub returns : goal.returns
returns c = checkpoints_are_told_apart
