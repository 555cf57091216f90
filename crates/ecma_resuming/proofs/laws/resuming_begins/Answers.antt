use Rattle.ecma_resuming.proofs.ResumingLemmas.{resuming_begins}
use Rattle.ecma_resuming.proofs.laws.resuming_begins.Goals as goal

pub returns : goal.returns
returns c = resuming_begins
