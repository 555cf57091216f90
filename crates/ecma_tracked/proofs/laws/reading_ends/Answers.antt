use Rattle.ecma_tracked.proofs.ReadingLemmas.{reading_ends}
use Rattle.ecma_tracked.proofs.laws.reading_ends.Goals as goal

pub returns : goal.returns
returns c = reading_ends
