use Rattle.ecma_joining.proofs.CodeKindsLaws.{closer_is_written}
use Rattle.ecma_joining.proofs.laws.closer_is_written.Goals as goal

pub returns : goal.returns
returns c = closer_is_written
