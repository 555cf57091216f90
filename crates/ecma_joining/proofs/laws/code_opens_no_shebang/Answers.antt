use Rattle.ecma_joining.proofs.CodeLaws.{code_opens_no_shebang}
use Rattle.ecma_joining.proofs.laws.code_opens_no_shebang.Goals as goal

pub returns : goal.returns
returns c = code_opens_no_shebang
