use Rattle.std.proofs.Common.{◌≡◌, ◌<◌, true, length, ap, subst, sym, ◌∙◌}
use Rattle.std.specs.Prelude.{IsOk, OnErr, OnOk}
use Rattle.ecma_place.specs.Cursor.{rest}
use Rattle.ecma_state.specs.Run.{is_free_read}
use Rattle.ecma_state.specs.Session.{LexerValue, lexer_state}
use Rattle.ecma_stream.specs.Giving.{Gives, IsRefused}
use Rattle.ecma_stream.proofs.ArmLemmas.{arm-back, arm-behind, moved-lexer}
use Rattle.ecma_plain.proofs.PlainLemmas.{none-behind, none-is}
use Rattle.ecma_stream.proofs.lexer.Lexer.next_into.Goals as goal

pub invariant_of-self : goal.invariant_of-self
invariant_of-self c = moved-lexer c.self.inside c.plain_space.new.input _ c.self.invariant c.in-Some.ensures.blank.moved

pub invariant_of-self-in-None : goal.invariant_of-self-in-None
invariant_of-self-in-None c = rw c.in_ok-stood.ensures.cases c.self.invariant

pub fork-requires : goal.fork-requires
fork-requires c =
    let none = none-is c.args.self.now.reread (sym c.reads_again.ensures ∙ c.if-reads_again.false) in
    record {
      behind =
          arm-behind c.self.inside c.args.self.now c.mode-mode.result c.cur_pos-before.result c.plain_space.new.input c.in-Some.gap c.self.view_is c.self.invariant none c.mode-mode.ensures
          c.cur_pos-before.ensures c.in-Some.ensures;
    }

pub returns-in-Some-clause-done : goal.returns-in-Some-clause-done
returns-in-Some-clause-done c =
    let stands = c.in-Some.ensures in
    let back = arm-back c.self.inside c.args.self.now c.cur_pos-before.result c.plain_space.new.input _ c.in-Some.gap.next c.self.view_is c.cur_pos-before.ensures stands.blank.moved stands.next in
    subst (λ (k : LexerValue). OnOk c.fork.result (Gives k c.fork.new.self c.args.slot.now c.fork.new.slot true)) back c.fork.ensures.done

pub returns-in-Some-clause-free : goal.returns-in-Some-clause-free
returns-in-Some-clause-free c =
    let stands = c.in-Some.ensures in
    let back = arm-back c.self.inside c.args.self.now c.cur_pos-before.result c.plain_space.new.input _ c.in-Some.gap.next c.self.view_is c.cur_pos-before.ensures stands.blank.moved stands.next in
    subst (λ (k : LexerValue). length k.state.contexts < 128 → is_free_read (lexer_state k) ≡ true → IsOk c.fork.result) back c.fork.ensures.free

pub returns-in-Some-clause-ended : goal.returns-in-Some-clause-ended
returns-in-Some-clause-ended c = λ none end.
    let stands = c.in-Some.ensures in
    absurd (none-behind c.self.inside.input c.plain_space.new.input _ _ stands.blank.moved (ap (λ k. rest k.input) c.self.view_is ∙ end) stands.next)

pub returns-in-Some-clause-refused : goal.returns-in-Some-clause-refused
returns-in-Some-clause-refused c =
    let stands = c.in-Some.ensures in
    let back = arm-back c.self.inside c.args.self.now c.cur_pos-before.result c.plain_space.new.input _ c.in-Some.gap.next c.self.view_is c.cur_pos-before.ensures stands.blank.moved stands.next in
    subst (λ (k : LexerValue). OnErr c.fork.result (IsRefused k c.fork.new.self c.args.slot.now c.fork.new.slot)) back c.fork.ensures.refused
