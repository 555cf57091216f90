use Rattle.ecma_tracked.proofs.ReadingLemmas.{excursions_are_undone}
use Rattle.ecma_tracked.proofs.laws.excursions_are_undone.Goals as goal

pub returns : goal.returns
returns c = excursions_are_undone
