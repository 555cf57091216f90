use Rattle.ecma_clean.proofs.CanonicalLaws.{canonical_is_shared}
use Rattle.ecma_clean.proofs.laws.canonical_is_shared.Goals as goal

pub returns : goal.returns
returns c = canonical_is_shared
