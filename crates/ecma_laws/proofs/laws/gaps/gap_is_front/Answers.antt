use Rattle.ecma_scan.proofs.GapLaws.{gap_is_front}
use Rattle.ecma_laws.proofs.laws.gaps.gap_is_front.Goals as goal

pub returns : goal.returns
returns c = gap_is_front
