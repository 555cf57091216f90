use Rattle.ecma_state.proofs.ErrorLemmas.{begins-same}
use Rattle.ecma_state.proofs.errors.ErrorLists.take_read.Goals as goal

pub returns-then-is_empty-2-clause-begins : goal.returns-then-is_empty-2-clause-begins
returns-then-is_empty-2-clause-begins c = begins-same c.args.self.now
