use Rattle.ecma_resuming.proofs.ResumingLemmas.{steps_go_on_over_the_rest}
use Rattle.ecma_resuming.proofs.laws.steps_go_on_over_the_rest.Goals as goal

pub returns : goal.returns
returns c = steps_go_on_over_the_rest
