use Rattle.std.proofs.Common.{refl}
use Rattle.ecma_state.specs.declared.step.Step.TheVariants.{SetCtx, SetExprAllowed, SetContexts, PopContext, Reread, Withdraw, TakeErrors}
use Rattle.ecma_replay.proofs.ReplayLemmas.{counts_pop_context, counts_reread, counts_set_contexts, counts_set_ctx, counts_set_expr_allowed, counts_take_errors, counts_withdraw, step_responds, step_responds_ok}
use Rattle.ecma_replay.proofs.WayLemmas.{stays, stays-ok}
use Rattle.ecma_replay.proofs.course.Course.respond.Goals as goal

pub returns-in-SetCtx : goal.returns-in-SetCtx
returns-in-SetCtx c =
    step_responds_ok (SetCtx c.in-SetCtx.context) c.args.step.now c.in-SetCtx.is (counts_set_ctx c.in-SetCtx.context) c.args.self.now _ _ c.set_ctx.result c.self.view_is refl c.set_ctx.ensures.grows c.set_ctx.ensures.acts

pub returns-in-SetExprAllowed : goal.returns-in-SetExprAllowed
returns-in-SetExprAllowed c =
    step_responds (SetExprAllowed c.in-SetExprAllowed.allowed) c.args.step.now c.in-SetExprAllowed.is (counts_set_expr_allowed c.in-SetExprAllowed.allowed) c.args.self.now _ _ c.set_expr_allowed.result c.self-in-SetExprAllowed.view_is refl (stays _) (c.set_expr_allowed.ensures _)

pub returns-in-SetContexts : goal.returns-in-SetContexts
returns-in-SetContexts c =
    step_responds_ok (SetContexts c.in-SetContexts.contexts) c.args.step.now c.in-SetContexts.is (counts_set_contexts c.in-SetContexts.contexts) c.args.self.now _ _ c.set_contexts.result c.self-in-SetContexts.view_is refl (stays-ok c.set_contexts.result _) (c.set_contexts.ensures _)

pub returns-in-PopContext : goal.returns-in-PopContext
returns-in-PopContext c =
    step_responds PopContext c.args.step.now c.in-PopContext.is counts_pop_context c.args.self.now _ _ c.pop_context.result c.self-in-PopContext.view_is refl (stays _) (c.pop_context.ensures _)

pub returns-in-Reread : goal.returns-in-Reread
returns-in-Reread c =
    step_responds Reread c.args.step.now c.in-Reread.is counts_reread c.args.self.now _ _ c.reread.result c.self-in-Reread.view_is refl (stays _) (c.reread.ensures _)

pub returns-in-Withdraw : goal.returns-in-Withdraw
returns-in-Withdraw c =
    step_responds Withdraw c.args.step.now c.in-Withdraw.is counts_withdraw c.args.self.now _ _ c.withdraw.result c.self-in-Withdraw.view_is refl (stays _) (c.withdraw.ensures _)

pub returns-in-TakeErrors : goal.returns-in-TakeErrors
returns-in-TakeErrors c =
    step_responds_ok TakeErrors c.args.step.now c.in-TakeErrors.is counts_take_errors c.args.self.now _ _ c.take_errors.result c.self-in-TakeErrors.view_is refl (stays-ok c.take_errors.result _) c.take_errors.ensures
