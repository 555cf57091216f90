use Rattle.ecma_joining.proofs.BoundariesLaws.{shebang_stands_alone}
use Rattle.ecma_joining.proofs.laws.shebang_stands_alone.Goals as goal

pub returns : goal.returns
returns c = shebang_stands_alone
