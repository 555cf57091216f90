use Rattle.ecma_joining.proofs.CodeLaws.{code_is_token}
use Rattle.ecma_joining.proofs.laws.code_is_token.Goals as goal

pub returns : goal.returns
returns c = code_is_token
