use Rattle.ecma_pieces.proofs.CoveredLemmas.{replays_may_be_covered}
use Rattle.ecma_pieces.proofs.laws.replays_may_be_covered.Goals as goal

pub returns : goal.returns
returns c = replays_may_be_covered
