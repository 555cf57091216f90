use Rattle.ecma_clean.proofs.CanonicalLaws.{canonical_runs_alike}
use Rattle.ecma_clean.proofs.laws.canonical_runs_alike.Goals as goal

pub returns : goal.returns
returns c = canonical_runs_alike
