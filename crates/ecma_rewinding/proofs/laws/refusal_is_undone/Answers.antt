use Rattle.ecma_rewinding.proofs.RewindingLemmas.{refusal_is_undone}
use Rattle.ecma_rewinding.proofs.laws.refusal_is_undone.Goals as goal

pub returns : goal.returns
returns c = refusal_is_undone
