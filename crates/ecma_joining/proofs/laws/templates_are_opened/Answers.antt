use Rattle.ecma_joining.proofs.OwnContextsLemmas.{templates_are_opened}
use Rattle.ecma_joining.proofs.laws.templates_are_opened.Goals as goal

pub returns : goal.returns
returns c = templates_are_opened
