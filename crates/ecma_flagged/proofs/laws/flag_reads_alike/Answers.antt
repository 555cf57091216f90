use Rattle.ecma_flagged.proofs.RuleLemmas.{flag_reads_alike}
use Rattle.ecma_flagged.proofs.laws.flag_reads_alike.Goals as goal

pub returns : goal.returns
returns c = flag_reads_alike
