use Rattle.ecma_reads.proofs.EndingLemmas.{tokens_run_out}
use Rattle.ecma_laws.proofs.laws.tokens_run_out.Goals as goal

pub returns : goal.returns
returns c = tokens_run_out
