use Rattle.ecma_tracked.proofs.ReadingLemmas.{texts_are_read}
use Rattle.ecma_tracked.proofs.laws.texts_are_read.Goals as goal

pub returns : goal.returns
returns c = texts_are_read
