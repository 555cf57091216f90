use Rattle.ecma_joining.proofs.SeparatorsLaws.{separator_is_the_gap}
use Rattle.ecma_joining.proofs.laws.separator_is_the_gap.Goals as goal

pub returns : goal.returns
returns c = separator_is_the_gap
