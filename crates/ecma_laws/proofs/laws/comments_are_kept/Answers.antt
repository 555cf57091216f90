use Rattle.ecma_laws.proofs.CollectingLemmas.{comments_are_kept}
use Rattle.ecma_laws.proofs.laws.comments_are_kept.Goals as goal

pub returns : goal.returns
returns c = comments_are_kept
