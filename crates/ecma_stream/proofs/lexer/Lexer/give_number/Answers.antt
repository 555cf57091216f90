use Rattle.std.proofs.Common.{ap, refl, subst, sym, ◌∙◌}
use Rattle.ecma_place.specs.Cursor.{rest}
use Rattle.ecma_token.specs.View.{spanned_view}
use Rattle.ecma_token.specs.declared.token.TokenAndSpan.{TokenAndSpan}
use Rattle.ecma_state.specs.Run.{mode_of}
use Rattle.ecma_state.specs.Session.{lexer_state}
use Rattle.ecma_state.specs.TokenAt.{lookahead}
use Rattle.ecma_state.specs.declared.mode.Mode.{Mode}
use Rattle.ecma_plain.specs.Plain.{IsPlain, plain_reading}
use Rattle.ecma_stream.proofs.ArmLemmas.{arm-read, moved-lexer}
use Rattle.ecma_plain.proofs.PlainLemmas.{plain-of-number}
use Rattle.ecma_stream.proofs.LexerLemmas.{same-lexer}
use Rattle.ecma_stream.proofs.lexer.Lexer.give_number.Goals as goal

pub give-requires-clause-found : goal.give-requires-clause-found
give-requires-clause-found c =
    let a = c.self.inside in
    let gap = c.args.gap in
    let now = c.plain_number.new.input in
    let t = spanned_view c.in-Ok-Some.token in
    let mode = c.mode-mode.ensures ∙ ap (λ k. mode_of (lexer_state k)) (sym c.self.view_is) in
    let token = rw c.in-Ok-Some.field-0-is at c.in-Ok-Some.ensures.token in
    let flag = rw c.in-Ok-Some.field-0-is at c.in-Ok-Some.ensures.flag in
    let opens = ap (λ m. lookahead m gap.line_break (rest a.input)) mode ∙ ap (λ k. lookahead (mode_of (lexer_state k)) gap.line_break (rest k.input)) c.self.view_is ∙ c.requires.opens in
    let is = plain-of-number c.mode-mode.result gap.line_break a.input now t opens token flag c.in-Ok-Some.ensures.moved in
    let read = arm-read c.args.before a c.args.self.now gap t now _ c.self.view_is c.requires.behind flag (subst (λ (m : Mode). IsPlain m t a.input now) mode is) c.in-Ok-Some.ensures.moved in
    read ∙ ap (λ (t : TokenAndSpan). plain_reading (spanned_view t) now) (sym c.with_kept.ensures.token)

pub invariant_of-self : goal.invariant_of-self
invariant_of-self c = moved-lexer c.self.inside c.plain_number.new.input _ c.self.invariant c.in-Ok-Some.ensures.moved

pub invariant_of-self-in-Ok-None : goal.invariant_of-self-in-Ok-None
invariant_of-self-in-Ok-None c = moved-lexer c.self.inside c.plain_number.new.input _ c.self.invariant c.in-Ok-None.ensures.moved

pub invariant_of-self-in-Err : goal.invariant_of-self-in-Err
invariant_of-self-in-Err c = same-lexer c.self.inside _ c.self.invariant c.in-Err.ensures.same refl refl c.self.invariant.none_pending
