use Rattle.ecma_laws.proofs.FewLemmas.{tokens_are_few}
use Rattle.ecma_laws.proofs.laws.tokens_are_few.Goals as goal

pub returns : goal.returns
returns c = tokens_are_few
