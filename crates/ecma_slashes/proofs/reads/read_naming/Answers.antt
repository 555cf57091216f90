use Rattle.std.proofs.Common.{◌∙◌, ap, refl, subst, sym}
use Rattle.std.specs.Prelude.{IsOk, option_map}
use Rattle.ecma_token.specs.View.{spanned_view}
use Rattle.ecma_state.specs.Session.{lexer_state}
use Rattle.ecma_slashes.specs.Rereads.{known_by}
use Rattle.ecma_slashes.proofs.RoleLemmas.{in-error, named}
use Rattle.ecma_slashes.proofs.TokenLemmas.{end-no-slash, fewer-seen, fewer-twice, lexer-no-slash, lexer-not-named, lexer-twice, never, refused-again, refused-first, twice-free}
use Rattle.ecma_slashes.proofs.reads.read_naming.Goals as goal

pub returns-then-not-names-clause-fewer : goal.returns-then-not-names-clause-fewer
returns-then-not-names-clause-fewer c =
    fewer-seen spanned_view (lexer_state c.args.lexer.now) (lexer_state c.read_into.new.self) c.read_into.new.slot c.requires.no_reread c.in_ok-read_into.ensures.answer c.in_ok-read_into.ensures.after

pub returns-in_default-clause-fewer : goal.returns-in_default-clause-fewer
returns-in_default-clause-fewer c =
    fewer-seen spanned_view (lexer_state c.args.lexer.now) (lexer_state c.read_into.new.self) c.read_into.new.slot c.requires.no_reread c.in_ok-read_into.ensures.answer c.in_ok-read_into.ensures.after

pub returns-in_default-clause-steps : goal.returns-in_default-clause-steps
returns-in_default-clause-steps c = λ rule s at names.
    lexer-no-slash rule s (lexer_state c.args.lexer.now) (lexer_state c.read_into.new.self) (option_map spanned_view c.read_into.new.slot) at c.in_ok-read_into.ensures.answer c.in_ok-read_into.ensures.after
    (sym c.in_default.is ∙ c.last_slash.ensures)

pub returns-then-not-names-clause-steps : goal.returns-then-not-names-clause-steps
returns-then-not-names-clause-steps c = λ rule s at names.
    lexer-not-named rule s (lexer_state c.args.lexer.now) (lexer_state c.read_into.new.self) c.in-Some.slash (option_map spanned_view c.read_into.new.slot) (known_by rule s) at
    refl c.in_ok-read_into.ensures.answer c.in_ok-read_into.ensures.after (sym c.in-Some.is ∙ c.last_slash.ensures)
    (sym c.if-not-names.true ∙ named rule s _ _ _ _ _ c.names.result names c.names.ensures c.expr_allowed-allowed.ensures)

pub returns-in_err-again-clause-ended : goal.returns-in_err-again-clause-ended
returns-in_err-again-clause-ended c = λ going left.
    absurd (end-no-slash (lexer_state c.args.lexer.now) (lexer_state c.read_into.new.self) c.in-Some.slash c.requires.no_reread left c.in_ok-read_into.ensures.after (sym c.in-Some.is ∙ c.last_slash.ensures))

pub returns-clause-fewer : goal.returns-clause-fewer
returns-clause-fewer c = λ some.
    fewer-twice (lexer_state c.args.lexer.now) (lexer_state c.read_into.new.self) (lexer_state c.set_next_regexp.new.self) (lexer_state c.read_into-again.new.self) (lexer_state c.set_next_regexp-2.new.self) c.in-Some.slash
    c.requires.no_reread c.in_ok-read_into.ensures.after (sym c.in-Some.is ∙ c.last_slash.ensures) c.set_next_regexp.ensures c.in_ok-again.ensures.after c.set_next_regexp-2.ensures

pub returns-clause-steps : goal.returns-clause-steps
returns-clause-steps c = λ rule s at names.
    lexer-twice rule s (lexer_state c.args.lexer.now) (lexer_state c.read_into.new.self) (lexer_state c.set_next_regexp.new.self) (lexer_state c.read_into-again.new.self) (lexer_state c.set_next_regexp-2.new.self) c.in-Some.slash
    (option_map spanned_view c.read_into.new.slot) (option_map spanned_view c.read_into-again.new.slot) (known_by rule s) at refl c.in_ok-read_into.ensures.answer
    (sym c.if-not-names.false ∙ named rule s _ _ _ _ _ c.names.result names c.names.ensures c.expr_allowed-allowed.ensures)
    c.in_ok-read_into.ensures.after (sym c.in-Some.is ∙ c.last_slash.ensures) c.set_next_regexp.ensures c.in_ok-again.ensures.answer c.in_ok-again.ensures.after c.set_next_regexp-2.ensures

pub returns-in_err-again-clause-free : goal.returns-in_err-again-clause-free
returns-in_err-again-clause-free c = λ rule s at names going free.
    let refused = ap (λ l. l.refused) c.set_next_regexp.ensures ∙ ap (λ l. l.refused) c.in_ok-read_into.ensures.after ∙ going in
    let quiet =
    twice-free rule s (lexer_state c.args.lexer.now) (lexer_state c.read_into.new.self) (lexer_state c.set_next_regexp.new.self) c.in-Some.slash (option_map spanned_view c.read_into.new.slot) (known_by rule s) at
    refl c.in_ok-read_into.ensures.answer (sym c.if-not-names.false ∙ named rule s _ _ _ _ _ c.names.result names c.names.ensures c.expr_allowed-allowed.ensures)
    c.in_ok-read_into.ensures.after (sym c.in-Some.is ∙ c.last_slash.ensures) c.set_next_regexp.ensures free in
    absurd (never (subst IsOk c.in_err-again.was (c.read_into-again.ensures.free refused quiet.0 quiet.1)))

pub returns-in_err-read_into-clause-on : goal.returns-in_err-read_into-clause-on
returns-in_err-read_into-clause-on c = in-error c.from_residual.result (refused-first _ _ (ap lexer_state c.in_err-read_into.ensures.refusal))

pub returns-in_err-again-clause-on : goal.returns-in_err-again-clause-on
returns-in_err-again-clause-on c = in-error c.from_residual-in_err-again.result
    (refused-again _ (lexer_state c.read_into.new.self) (lexer_state c.set_next_regexp.new.self) (lexer_state c.read_into-again.new.self) _ _ c.in_ok-read_into.ensures.after c.set_next_regexp.ensures (ap lexer_state c.in_err-again.ensures.refusal)
    c.set_next_regexp-2.ensures)
