use Rattle.ecma_joining.proofs.BoundariesLaws.{nothing_behind_the_gap}
use Rattle.ecma_joining.proofs.laws.nothing_behind_the_gap.Goals as goal

pub returns : goal.returns
returns c = nothing_behind_the_gap
