use Rattle.ecma_replay.proofs.JoinedLemmas.{nothing-found}
use Rattle.ecma_replay.proofs.branch.Branch.new.Goals as goal

pub returns : goal.returns
returns c = λ t s shows new. nothing-found t s _ shows new c.none.ensures
