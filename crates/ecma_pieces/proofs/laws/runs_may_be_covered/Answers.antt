use Rattle.ecma_pieces.proofs.CoveredLemmas.{runs_may_be_covered}
use Rattle.ecma_pieces.proofs.laws.runs_may_be_covered.Goals as goal

pub returns : goal.returns
returns c = runs_may_be_covered
