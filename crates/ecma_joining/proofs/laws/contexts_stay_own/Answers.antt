use Rattle.ecma_joining.proofs.OwnContextsLemmas.{contexts_stay_own}
use Rattle.ecma_joining.proofs.laws.contexts_stay_own.Goals as goal

pub returns : goal.returns
returns c = contexts_stay_own
