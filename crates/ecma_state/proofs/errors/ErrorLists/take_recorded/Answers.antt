use Rattle.ecma_state.proofs.ErrorLemmas.{begins-same, begins-recorded}
use Rattle.ecma_state.proofs.errors.ErrorLists.take_recorded.Goals as goal

pub returns-then-context-clause-begins : goal.returns-then-context-clause-begins
returns-then-context-clause-begins c = begins-same c.args.self.now

pub returns-clause-begins : goal.returns-clause-begins
returns-clause-begins c = rw (← c.self.view_is) (begins-recorded _ c.push.new.self c.args.error c.push.result c.push.ensures.ok c.push.ensures.err)
