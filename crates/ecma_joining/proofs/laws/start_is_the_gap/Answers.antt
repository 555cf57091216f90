use Rattle.ecma_joining.proofs.SeparatorsLaws.{start_is_the_gap}
use Rattle.ecma_joining.proofs.laws.start_is_the_gap.Goals as goal

pub returns : goal.returns
returns c = start_is_the_gap
