use Rattle.std.proofs.Common.{◌∙◌, ap, subst}
use Rattle.std.specs.Prelude.{IsOk}
use Rattle.ecma_place.specs.Cursor.{Cursor}
use Rattle.ecma_state.specs.Run.{start_of, state_in}
use Rattle.ecma_state.specs.Session.{state_of}
use Rattle.ecma_slashes.proofs.TokenLemmas.{never}
use Rattle.ecma_slashes.proofs.entry.enter.Goals as goal

pub returns-clause-shows : goal.returns-clause-shows
returns-clause-shows c =
    c.in_ok-set_ctx.ensures.ok ∙ ap (state_in c.args.context) (c.with_settings-lexer.ensures ∙ ap (λ (input : Cursor). state_of (start_of c.args.settings.now input)) c.new-input.ensures)

pub returns-in_err-set_ctx-clause-free : goal.returns-in_err-set_ctx-clause-free
returns-in_err-set_ctx-clause-free c = absurd (never (subst IsOk c.in_err-set_ctx.was (c.set_ctx.ensures.none_waiting (ap (λ l. l.errors.waiting) c.with_settings-lexer.ensures))))
