use Rattle.ecma_tracked.proofs.ReadingLemmas.{reading_begins}
use Rattle.ecma_tracked.proofs.laws.reading_begins.Goals as goal

pub returns : goal.returns
returns c = reading_begins
