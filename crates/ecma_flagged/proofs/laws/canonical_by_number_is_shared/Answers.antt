use Rattle.ecma_flagged.proofs.RuleLemmas.{canonical_by_number_is_shared}
use Rattle.ecma_flagged.proofs.laws.canonical_by_number_is_shared.Goals as goal

pub returns : goal.returns
returns c = canonical_by_number_is_shared
