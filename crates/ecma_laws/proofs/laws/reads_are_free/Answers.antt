use Rattle.ecma_laws.proofs.FreeLemmas.{reads_are_free}
use Rattle.ecma_laws.proofs.laws.reads_are_free.Goals as goal

pub returns : goal.returns
returns c = reads_are_free
