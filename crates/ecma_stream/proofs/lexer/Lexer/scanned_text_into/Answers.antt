use Rattle.std.proofs.Common.{◌≡◌, ◌<◌, None, true, length, ap, refl, subst, sym, ◌∙◌}
use Rattle.std.specs.Prelude.{IsOk, OnErr, OnOk}
use Rattle.ecma_token.specs.View.{spanned_view}
use Rattle.ecma_state.specs.Reading.{is_free, reading}
use Rattle.ecma_state.specs.Run.{is_free_read, mode_of}
use Rattle.ecma_state.specs.Session.{LexerValue, lexer_state}
use Rattle.ecma_plain.specs.Plain.{ReadsText}
use Rattle.ecma_stream.specs.Giving.{Gives, IsRefused}
use Rattle.ecma_stream.specs.View.{lexer_view}
use Rattle.ecma_stream.proofs.ArmLemmas.{at-text, first-at, has-before, moved-lexer, text-back}
use Rattle.ecma_plain.proofs.PlainLemmas.{free-text, text-read}
use Rattle.ecma_stream.proofs.LexerLemmas.{same-lexer}
use Rattle.ecma_stream.proofs.lexer.Lexer.scanned_text_into.Goals as goal

pub invariant_of-self : goal.invariant_of-self
invariant_of-self c = same-lexer c.self.inside _ c.self.invariant c.in_err-plain.ensures.same refl refl c.self.invariant.none_pending

pub invariant_of-self-in-None : goal.invariant_of-self-in-None
invariant_of-self-in-None c = moved-lexer c.self.inside c.plain_text.new.input _ c.self.invariant c.in_ok-plain.ensures.moved

pub give_text-requires-clause-place : goal.give_text-requires-clause-place
give_text-requires-clause-place c = has-before c.self.inside.input c.plain_text.new.input _ _ c.in_ok-plain.ensures.moved c.cur_pos-before.ensures

pub go_before-requires-clause-place : goal.go_before-requires-clause-place
go_before-requires-clause-place c = has-before c.self.inside.input c.plain_text.new.input _ _ c.in_ok-plain.ensures.moved c.cur_pos-before.ensures

pub invariant_of-self-in-Some : goal.invariant_of-self-in-Some
invariant_of-self-in-Some c = moved-lexer c.self.inside c.plain_text.new.input _ c.self.invariant c.in_ok-plain.ensures.moved

pub give_text-requires-clause-found : goal.give_text-requires-clause-found
give_text-requires-clause-found c =
    let a = c.self.inside in
    let now = c.plain_text.new.input in
    let t = spanned_view c.in-Some.plain.token in
    let own : c.mode-mode.result ≡ mode_of (lexer_state (lexer_view a)) = c.mode-mode.ensures ∙ ap (λ k. mode_of (lexer_state k)) (sym c.self.view_is) in
    let is = (subst ReadsText (sym c.mode-mode.ensures) c.requires.text) in
    let first = first-at c.self.inside c.args.self.now c.self.view_is c.requires.more.1 in
    let token = rw c.in-Some.is at c.in_ok-plain.ensures.token in
    ap (reading (mode_of (lexer_state (lexer_view a)))) (at-text a.input now c.cur_pos-before.result _ _ c.in_ok-plain.ensures.moved c.cur_pos-before.ensures first)
    ∙ ap (λ m. reading m a.input) (sym own)
    ∙ text-read c.mode-mode.result a.input now _ t is.0 is.1 is.2 first token c.in_ok-plain.ensures.moved

pub returns-in-Some-clause-done : goal.returns-in-Some-clause-done
returns-in-Some-clause-done c =
    let back = text-back c.self.inside c.args.self.now c.cur_pos-before.result c.plain_text.new.input _ _ c.self.view_is c.cur_pos-before.ensures c.in_ok-plain.ensures.moved (first-at c.self.inside c.args.self.now c.self.view_is c.requires.more.1) in
    subst (λ (k : LexerValue). OnOk c.give_text.result (Gives k c.give_text.new.self c.args.slot.now c.give_text.new.slot true)) back c.give_text.ensures.done

pub returns-in-None-clause-done : goal.returns-in-None-clause-done
returns-in-None-clause-done c =
    let back = text-back c.self.inside c.args.self.now c.cur_pos-before.result c.plain_text.new.input _ _ c.self.view_is c.cur_pos-before.ensures c.in_ok-plain.ensures.moved (first-at c.self.inside c.args.self.now c.self.view_is c.requires.more.1) in
    subst (λ (k : LexerValue). OnOk c.besides_into.result (Gives k c.besides_into.new.self c.args.slot.now c.besides_into.new.slot true)) (c.go_before.ensures ∙ back)
    c.besides_into.ensures.done

pub returns-in-None-clause-free : goal.returns-in-None-clause-free
returns-in-None-clause-free c =
    let back = text-back c.self.inside c.args.self.now c.cur_pos-before.result c.plain_text.new.input _ _ c.self.view_is c.cur_pos-before.ensures c.in_ok-plain.ensures.moved (first-at c.self.inside c.args.self.now c.self.view_is c.requires.more.1) in
    subst (λ (k : LexerValue). length k.state.contexts < 128 → is_free_read (lexer_state k) ≡ true → IsOk c.besides_into.result) (c.go_before.ensures ∙ back)
    c.besides_into.ensures.free

pub returns-in_err-plain-clause-free : goal.returns-in_err-plain-clause-free
returns-in_err-plain-clause-free c = λ few h.
    let a = c.self.inside in
    let own : c.mode-mode.result ≡ mode_of (lexer_state (lexer_view a)) = c.mode-mode.ensures ∙ ap (λ k. mode_of (lexer_state k)) (sym c.self.view_is) in
    let is = (subst ReadsText (sym c.mode-mode.ensures) c.requires.text) in
    let there : is_free_read (lexer_state (lexer_view a)) ≡ true = ap (λ k. is_free_read (lexer_state k)) c.self.view_is ∙ h in
    let none : a.reread ≡ None = ap (λ k. k.reread) c.self.view_is ∙ c.requires.none in
    let free : is_free (mode_of (lexer_state (lexer_view a))) a.input ≡ true = rw none at there in
    let never = c.in_err-plain.ensures.free (free-text c.mode-mode.result a.input _ is.0 is.1 is.2 (first-at c.self.inside c.args.self.now c.self.view_is c.requires.more.1) (ap (λ m. is_free m a.input) own ∙ free)) in
    cc

pub returns-in-Some-clause-refused : goal.returns-in-Some-clause-refused
returns-in-Some-clause-refused c =
    let back = text-back c.self.inside c.args.self.now c.cur_pos-before.result c.plain_text.new.input _ _ c.self.view_is c.cur_pos-before.ensures c.in_ok-plain.ensures.moved (first-at c.self.inside c.args.self.now c.self.view_is c.requires.more.1) in
    subst (λ (k : LexerValue). OnErr c.give_text.result (IsRefused k c.give_text.new.self c.args.slot.now c.give_text.new.slot)) back c.give_text.ensures.refused

pub returns-in-None-clause-refused : goal.returns-in-None-clause-refused
returns-in-None-clause-refused c =
    let back = text-back c.self.inside c.args.self.now c.cur_pos-before.result c.plain_text.new.input _ _ c.self.view_is c.cur_pos-before.ensures c.in_ok-plain.ensures.moved (first-at c.self.inside c.args.self.now c.self.view_is c.requires.more.1) in
    subst (λ (k : LexerValue). OnErr c.besides_into.result (IsRefused k c.besides_into.new.self c.args.slot.now c.besides_into.new.slot)) (c.go_before.ensures ∙ back)
    c.besides_into.ensures.refused
