use Rattle.ecma_flagged.proofs.RuleLemmas.{number_reads_alike}
use Rattle.ecma_flagged.proofs.laws.number_reads_alike.Goals as goal

pub returns : goal.returns
returns c = number_reads_alike
