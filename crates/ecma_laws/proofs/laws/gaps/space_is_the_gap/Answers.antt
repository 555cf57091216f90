use Rattle.ecma_scan.proofs.GapLaws.{space_is_the_gap}
use Rattle.ecma_laws.proofs.laws.gaps.space_is_the_gap.Goals as goal

pub returns : goal.returns
returns c = space_is_the_gap
