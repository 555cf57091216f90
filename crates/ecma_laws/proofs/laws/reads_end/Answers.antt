use Rattle.ecma_reads.proofs.EndingLemmas.{reads_out}
use Rattle.ecma_laws.proofs.laws.reads_end.Goals as goal

pub returns : goal.returns
returns c = reads_out
