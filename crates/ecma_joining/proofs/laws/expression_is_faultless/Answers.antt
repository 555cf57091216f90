use Rattle.ecma_joining.proofs.FaultlessLaws.{expression_is_faultless}
use Rattle.ecma_joining.proofs.laws.expression_is_faultless.Goals as goal

pub returns : goal.returns
returns c = expression_is_faultless
