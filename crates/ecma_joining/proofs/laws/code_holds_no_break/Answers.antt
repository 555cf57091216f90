use Rattle.ecma_joining.proofs.CodeKindsLaws.{code_holds_no_break}
use Rattle.ecma_joining.proofs.laws.code_holds_no_break.Goals as goal

pub returns : goal.returns
returns c = code_holds_no_break
