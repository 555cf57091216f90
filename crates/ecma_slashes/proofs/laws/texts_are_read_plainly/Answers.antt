use Rattle.ecma_slashes.proofs.PlainRuns.{texts_are_read_plainly}
use Rattle.ecma_slashes.proofs.laws.texts_are_read_plainly.Goals as goal

pub returns : goal.returns
returns c = texts_are_read_plainly
