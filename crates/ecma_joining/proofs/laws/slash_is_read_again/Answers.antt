use Rattle.ecma_joining.proofs.SeparatorsLaws.{slash_is_read_again}
use Rattle.ecma_joining.proofs.laws.slash_is_read_again.Goals as goal

pub returns : goal.returns
returns c = slash_is_read_again
