use Rattle.ecma_flagged.proofs.RuleLemmas.{canonical_by_number_is_read}
use Rattle.ecma_flagged.proofs.laws.canonical_by_number_is_read.Goals as goal

pub returns : goal.returns
returns c = canonical_by_number_is_read
