use Rattle.ecma_joining.proofs.CodeKindsLaws.{code_is_neither}
use Rattle.ecma_joining.proofs.laws.code_is_neither.Goals as goal

pub returns : goal.returns
returns c = code_is_neither
