use Rattle.ecma_joining.proofs.CodeLaws.{code_begins_no_gap}
use Rattle.ecma_joining.proofs.laws.code_begins_no_gap.Goals as goal

pub returns : goal.returns
returns c = code_begins_no_gap
