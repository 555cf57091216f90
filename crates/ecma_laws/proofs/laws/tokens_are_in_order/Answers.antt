use Rattle.ecma_laws.proofs.TilingLemmas.{tokens_are_in_order}
use Rattle.ecma_laws.proofs.laws.tokens_are_in_order.Goals as goal

pub returns : goal.returns
returns c = tokens_are_in_order
