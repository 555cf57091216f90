use Rattle.ecma_state.proofs.ErrorLemmas.{begins-recorded, begins-waiting}
use Rattle.ecma_state.proofs.errors.ErrorLists.take_module_mode.Goals as goal

pub returns-then-context-clause-begins : goal.returns-then-context-clause-begins
returns-then-context-clause-begins c =
    rw (← c.self.view_is) (begins-recorded _ c.push.new.self c.args.error c.push.result c.push.ensures.ok c.push.ensures.err)

pub returns-else-context-clause-begins : goal.returns-else-context-clause-begins
returns-else-context-clause-begins c =
    rw (← c.self.view_is) (begins-waiting _ c.push-else-context.new.self c.args.error c.push-else-context.result c.push-else-context.ensures.ok c.push-else-context.ensures.err)
