use Rattle.ecma_joining.proofs.SeparatorsLaws.{closers_are_read_again}
use Rattle.ecma_joining.proofs.laws.closers_are_read_again.Goals as goal

pub returns : goal.returns
returns c = closers_are_read_again
