use Rattle.std.proofs.Common.{◌∙◌, ap, sym}
use Rattle.ecma_state.specs.Session.{lexer_state}
use Rattle.ecma_tracked.specs.States.{tracked_state}
use Rattle.ecma_tracked.proofs.StateLemmas.{set-plain, set-shows}
use Rattle.ecma_tracked.proofs.tracked.Tracked.set_ctx.Goals as goal

pub invariant_of-self : goal.invariant_of-self
invariant_of-self c =
    record {
      by_roles = c.self.invariant.by_roles;
      no_reread = λ going. set-plain c.set_ctx.result c.args.context (lexer_state c.self.inside.lexer) (lexer_state c.set_ctx.new.self) c.set_ctx.ensures.ok c.set_ctx.ensures.err ∙ c.self.invariant.no_reread going;
    }

pub returns-clause-shows : goal.returns-clause-shows
returns-clause-shows c = λ s shows.
    set-shows c.set_ctx.result s c.args.context c.self.inside c.set_ctx.new.self (c.requires ∙ ap (λ t. t.lexer.context.«module») (sym c.self.view_is)) c.set_ctx.ensures.ok (shows ∙ sym (ap tracked_state c.self.view_is))
