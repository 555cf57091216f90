use Rattle.ecma_flagged.proofs.RuleLemmas.{role_reads_alike}
use Rattle.ecma_flagged.proofs.laws.role_reads_alike.Goals as goal

pub returns : goal.returns
returns c = role_reads_alike
