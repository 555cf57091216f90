use Rattle.ecma_slashes.proofs.MetLemmas.{rereads_count_met}
use Rattle.ecma_slashes.proofs.laws.rereads_count_met.Goals as goal

pub returns : goal.returns
returns c = rereads_count_met
