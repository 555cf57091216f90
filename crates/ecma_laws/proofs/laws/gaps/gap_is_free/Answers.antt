use Rattle.ecma_laws.proofs.FreeGaps.{gap_is_free}
use Rattle.ecma_laws.proofs.laws.gaps.gap_is_free.Goals as goal

pub returns : goal.returns
returns c = gap_is_free
