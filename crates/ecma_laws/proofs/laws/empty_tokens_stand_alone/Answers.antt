use Rattle.ecma_laws.proofs.EmptyLemmas.{empty_tokens_stand_alone}
use Rattle.ecma_laws.proofs.laws.empty_tokens_stand_alone.Goals as goal

pub returns : goal.returns
returns c = empty_tokens_stand_alone
