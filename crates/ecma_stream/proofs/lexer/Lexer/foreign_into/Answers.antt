use Rattle.std.proofs.Common.{◌≡◌, true, ap, subst, sym, ◌∙◌}
use Rattle.std.specs.Prelude.{OnErr, OnOk}
use Rattle.ecma_state.specs.Reading.{reading}
use Rattle.ecma_state.specs.Run.{mode_of}
use Rattle.ecma_state.specs.Session.{LexerValue, lexer_state}
use Rattle.ecma_stream.specs.Giving.{Gives, IsRefused}
use Rattle.ecma_stream.specs.View.{lexer_view}
use Rattle.ecma_stream.proofs.ArmLemmas.{at-text, has-before, moved-lexer, text-back}
use Rattle.ecma_stream.proofs.lexer.Lexer.foreign_into.Goals as goal

pub invariant_of-self : goal.invariant_of-self
invariant_of-self c = moved-lexer c.self.inside c.plain_foreign.new.input _ c.self.invariant c.in-Some.ensures.ahead.1

pub invariant_of-self-in-None : goal.invariant_of-self-in-None
invariant_of-self-in-None c = rw c.in_ok-here.ensures.cases c.self.invariant

pub give-requires-clause-place : goal.give-requires-clause-place
give-requires-clause-place c = has-before c.self.inside.input c.plain_foreign.new.input _ _ c.in-Some.ensures.ahead.1 c.cur_pos-before.ensures

pub give-requires-clause-found : goal.give-requires-clause-found
give-requires-clause-found c =
    let a = c.self.inside in
    let own : c.mode-mode.result ≡ mode_of (lexer_state (lexer_view a)) = c.mode-mode.ensures ∙ ap (λ k. mode_of (lexer_state k)) (sym c.self.view_is) in
    ap (reading (mode_of (lexer_state (lexer_view a)))) (at-text a.input c.plain_foreign.new.input c.cur_pos-before.result _ _ c.in-Some.ensures.ahead.1 c.cur_pos-before.ensures c.in-Some.ensures.more.1)
    ∙ ap (λ m. reading m a.input) (sym own)
    ∙ c.in-Some.ensures.found

pub returns-in-Some-clause-done : goal.returns-in-Some-clause-done
returns-in-Some-clause-done c =
    let back = text-back c.self.inside c.args.self.now c.cur_pos-before.result c.plain_foreign.new.input _ _ c.self.view_is c.cur_pos-before.ensures c.in-Some.ensures.ahead.1 c.in-Some.ensures.more.1 in
    subst (λ (k : LexerValue). OnOk c.give.result (Gives k c.give.new.self c.args.slot.now c.give.new.slot true)) back c.give.ensures.done

pub returns-in-Some-clause-refused : goal.returns-in-Some-clause-refused
returns-in-Some-clause-refused c =
    let back = text-back c.self.inside c.args.self.now c.cur_pos-before.result c.plain_foreign.new.input _ _ c.self.view_is c.cur_pos-before.ensures c.in-Some.ensures.ahead.1 c.in-Some.ensures.more.1 in
    subst (λ (k : LexerValue). OnErr c.give.result (IsRefused k c.give.new.self c.args.slot.now c.give.new.slot)) back c.give.ensures.refused
