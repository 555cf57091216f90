use Rattle.ecma_kinds.proofs.KindLemmas.{kinds_are_told_apart}
use Rattle.ecma_kinds.proofs.laws.kinds_are_told_apart.Goals as goal

pub returns : goal.returns
returns c = kinds_are_told_apart
