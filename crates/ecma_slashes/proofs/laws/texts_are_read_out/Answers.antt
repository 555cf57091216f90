use Rattle.ecma_slashes.proofs.RunLemmas.{texts_are_read_out}
use Rattle.ecma_slashes.proofs.laws.texts_are_read_out.Goals as goal

pub returns : goal.returns
returns c = texts_are_read_out
