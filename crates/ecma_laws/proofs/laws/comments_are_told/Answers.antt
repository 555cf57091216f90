use Rattle.ecma_laws.proofs.ToldLemmas.{comments_are_told}
use Rattle.ecma_laws.proofs.laws.comments_are_told.Goals as goal

pub returns : goal.returns
returns c = comments_are_told
