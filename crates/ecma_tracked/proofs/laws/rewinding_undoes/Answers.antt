use Rattle.ecma_tracked.proofs.MarkLemmas.{rewinding_undoes}
use Rattle.ecma_tracked.proofs.laws.rewinding_undoes.Goals as goal

pub returns : goal.returns
returns c = rewinding_undoes
