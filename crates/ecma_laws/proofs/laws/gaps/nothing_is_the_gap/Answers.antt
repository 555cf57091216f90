use Rattle.ecma_scan.proofs.GapLaws.{nothing_is_the_gap}
use Rattle.ecma_laws.proofs.laws.gaps.nothing_is_the_gap.Goals as goal

pub returns : goal.returns
returns c = nothing_is_the_gap
