use Rattle.std.proofs.Common.{◌≡◌, ◌<◌, ℕ, Some, true, length, slice_get, ap, subst, sym, ◌∙◌}
use Rattle.std.specs.Prelude.{IsOk, OnErr, OnOk}
use Rattle.ecma_place.specs.Cursor.{Cursor, rest}
use Rattle.ecma_place.proofs.MoveLemmas.{place-passed-le}
use Rattle.ecma_token.specs.View.{spanned_view}
use Rattle.ecma_state.specs.Reading.{reading}
use Rattle.ecma_state.specs.Run.{is_free_read, mode_of}
use Rattle.ecma_state.specs.Mode.{is_tpl_element}
use Rattle.ecma_state.specs.Session.{LexerValue, lexer_state}
use Rattle.ecma_plain.specs.Plain.{ReadsText}
use Rattle.ecma_stream.specs.Giving.{Gives, IsRefused}
use Rattle.ecma_stream.specs.View.{lexer_view}
use Rattle.ecma_stream.proofs.ArmLemmas.{at-text, first-at, has-before, moved-lexer, same-back, text-back}
use Rattle.ecma_plain.proofs.PlainLemmas.{eaten-text}
use Rattle.ecma_stream.proofs.lexer.Lexer.template_into.Goals as goal

pub invariant_of-self : goal.invariant_of-self
invariant_of-self c = moved-lexer c.self.inside c.eat_plain_template.new.input _ c.self.invariant (c.in-Read.ensures.found 0).1

pub text_between-requires : goal.text_between-requires
text_between-requires c = rw (c.cur_pos-before.ensures, c.cur_pos-end.ensures) (place-passed-le _ _ _ (c.in-Read.ensures.found 0).1)

pub give_text-requires-clause-place : goal.give_text-requires-clause-place
give_text-requires-clause-place c = has-before c.self.inside.input c.eat_plain_template.new.input _ _ (c.in-Read.ensures.found 0).1 c.cur_pos-before.ensures

pub give_text-requires-clause-found : goal.give_text-requires-clause-found
give_text-requires-clause-found c =
    let a = c.self.inside in
    let l = c.args.self.now in
    let now = c.eat_plain_template.new.input in
    let own = ap (λ k. mode_of (lexer_state k)) (sym c.self.view_is) in
    let is = subst ReadsText own c.requires.text in
    let after = c.is_after_template-after_template.ensures ∙ ap (λ m. is_tpl_element m.previous) (c.mode.ensures ∙ own) in
    let first = first-at a l c.self.view_is c.requires.more.1 in
    ap (reading (mode_of (lexer_state (lexer_view a)))) (at-text a.input now c.cur_pos-before.result _ _ (c.in-Read.ensures.found 0).1 c.cur_pos-before.ensures first)
    ∙ eaten-text (mode_of (lexer_state (lexer_view a))) a.input now _ _ _ _ (spanned_view c.text_between.result.token) _ _ is after first c.in-Read.ensures.found c.text_between.ensures.token c.cur_pos-before.ensures
    c.cur_pos-end.ensures

pub invariant_of-self-in-Unterminated : goal.invariant_of-self-in-Unterminated
invariant_of-self-in-Unterminated c = moved-lexer c.self.inside c.eat_plain_template.new.input _ c.self.invariant (c.in-Unterminated.ensures.found 0).1

pub go_before-requires-clause-place : goal.go_before-requires-clause-place
go_before-requires-clause-place c = has-before c.self.inside.input c.eat_plain_template.new.input _ _ (c.in-Unterminated.ensures.found 0).1 c.cur_pos-before.ensures

pub invariant_of-self-in-Other : goal.invariant_of-self-in-Other
invariant_of-self-in-Other c = rw (c.in-Other.ensures.found 0) c.self.invariant

pub scanned_text_into-requires-clause-more : goal.scanned_text_into-requires-clause-more
scanned_text_into-requires-clause-more c =
    subst (λ (i : Cursor). (x : ℕ) × (slice_get (rest i) 0 ≡ Some x)) (sym (c.in-Other.ensures.found 0)) (c.requires.more.0, first-at c.self.inside c.args.self.now c.self.view_is c.requires.more.1)

pub returns-in-Read-clause-done : goal.returns-in-Read-clause-done
returns-in-Read-clause-done c =
    let first = first-at c.self.inside c.args.self.now c.self.view_is c.requires.more.1 in
    let back = text-back c.self.inside c.args.self.now c.cur_pos-before.result c.eat_plain_template.new.input _ _ c.self.view_is c.cur_pos-before.ensures (c.in-Read.ensures.found 0).1 first in
    subst (λ (k : LexerValue). OnOk c.give_text.result (Gives k c.give_text.new.self c.args.slot.now c.give_text.new.slot true)) back c.give_text.ensures.done

pub returns-in-Unterminated-clause-done : goal.returns-in-Unterminated-clause-done
returns-in-Unterminated-clause-done c =
    let first = first-at c.self.inside c.args.self.now c.self.view_is c.requires.more.1 in
    let back = text-back c.self.inside c.args.self.now c.cur_pos-before.result c.eat_plain_template.new.input _ _ c.self.view_is c.cur_pos-before.ensures (c.in-Unterminated.ensures.found 0).1 first in
    subst (λ (k : LexerValue). OnOk c.besides_into.result (Gives k c.besides_into.new.self c.args.slot.now c.besides_into.new.slot true)) (c.go_before.ensures ∙ back) c.besides_into.ensures.done

pub returns-in-Unterminated-clause-free : goal.returns-in-Unterminated-clause-free
returns-in-Unterminated-clause-free c =
    let first = first-at c.self.inside c.args.self.now c.self.view_is c.requires.more.1 in
    let back = text-back c.self.inside c.args.self.now c.cur_pos-before.result c.eat_plain_template.new.input _ _ c.self.view_is c.cur_pos-before.ensures (c.in-Unterminated.ensures.found 0).1 first in
    subst (λ (k : LexerValue). length k.state.contexts < 128 → is_free_read (lexer_state k) ≡ true → IsOk c.besides_into.result) (c.go_before.ensures ∙ back) c.besides_into.ensures.free

pub returns-in-Other-clause-done : goal.returns-in-Other-clause-done
returns-in-Other-clause-done c =
    let back = same-back c.self.inside c.args.self.now c.eat_plain_template.new.input c.self.view_is (c.in-Other.ensures.found 0) in
    subst (λ (k : LexerValue). OnOk c.scanned_text_into.result (Gives k c.scanned_text_into.new.self c.args.slot.now c.scanned_text_into.new.slot true)) back c.scanned_text_into.ensures.done

pub returns-in-Other-clause-free : goal.returns-in-Other-clause-free
returns-in-Other-clause-free c =
    let back = same-back c.self.inside c.args.self.now c.eat_plain_template.new.input c.self.view_is (c.in-Other.ensures.found 0) in
    subst (λ (k : LexerValue). length k.state.contexts < 128 → is_free_read (lexer_state k) ≡ true → IsOk c.scanned_text_into.result) back c.scanned_text_into.ensures.free

pub returns-in-Read-clause-refused : goal.returns-in-Read-clause-refused
returns-in-Read-clause-refused c =
    let first = first-at c.self.inside c.args.self.now c.self.view_is c.requires.more.1 in
    let back = text-back c.self.inside c.args.self.now c.cur_pos-before.result c.eat_plain_template.new.input _ _ c.self.view_is c.cur_pos-before.ensures (c.in-Read.ensures.found 0).1 first in
    subst (λ (k : LexerValue). OnErr c.give_text.result (IsRefused k c.give_text.new.self c.args.slot.now c.give_text.new.slot)) back c.give_text.ensures.refused

pub returns-in-Unterminated-clause-refused : goal.returns-in-Unterminated-clause-refused
returns-in-Unterminated-clause-refused c =
    let first = first-at c.self.inside c.args.self.now c.self.view_is c.requires.more.1 in
    let back = text-back c.self.inside c.args.self.now c.cur_pos-before.result c.eat_plain_template.new.input _ _ c.self.view_is c.cur_pos-before.ensures (c.in-Unterminated.ensures.found 0).1 first in
    subst (λ (k : LexerValue). OnErr c.besides_into.result (IsRefused k c.besides_into.new.self c.args.slot.now c.besides_into.new.slot)) (c.go_before.ensures ∙ back) c.besides_into.ensures.refused

pub returns-in-Other-clause-refused : goal.returns-in-Other-clause-refused
returns-in-Other-clause-refused c =
    let back = same-back c.self.inside c.args.self.now c.eat_plain_template.new.input c.self.view_is (c.in-Other.ensures.found 0) in
    subst (λ (k : LexerValue). OnErr c.scanned_text_into.result (IsRefused k c.scanned_text_into.new.self c.args.slot.now c.scanned_text_into.new.slot)) back c.scanned_text_into.ensures.refused
