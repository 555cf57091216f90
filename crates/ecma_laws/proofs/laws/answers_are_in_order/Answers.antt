use Rattle.ecma_laws.proofs.OrderLemmas.{answers_are_in_order}
use Rattle.ecma_laws.proofs.laws.answers_are_in_order.Goals as goal

pub returns : goal.returns
returns c = answers_are_in_order
