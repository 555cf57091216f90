use Rattle.ecma_clean.proofs.CanonicalLaws.{canonical_is_read}
use Rattle.ecma_clean.proofs.laws.canonical_is_read.Goals as goal

pub returns : goal.returns
returns c = canonical_is_read
