use Rattle.ecma_laws.proofs.FreeLemmas.{expression_is_free}
use Rattle.ecma_laws.proofs.laws.expressions.expression_is_free.Goals as goal

pub returns : goal.returns
returns c = expression_is_free
