use Rattle.ecma_tracked.proofs.ReadingLemmas.{reading_goes_on}
use Rattle.ecma_tracked.proofs.laws.reading_goes_on.Goals as goal

pub returns : goal.returns
returns c = reading_goes_on
