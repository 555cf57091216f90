use Rattle.ecma_laws.proofs.GoingBack.{going_back_undoes}
use Rattle.ecma_laws.proofs.laws.going_back_undoes.Goals as goal

pub returns : goal.returns
returns c = going_back_undoes
