use Rattle.ecma_resuming.proofs.ResumingLemmas.{steps_answer_over_the_rest}
use Rattle.ecma_resuming.proofs.laws.steps_answer_over_the_rest.Goals as goal

pub returns : goal.returns
returns c = steps_answer_over_the_rest
