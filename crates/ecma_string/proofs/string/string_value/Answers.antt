use Rattle.std.proofs.Common.{◌≡◌, ap, sym, ◌∙◌, refl, map, true, false, Ok}
use Rattle.std.specs.Prelude.{string_bytes}
use Rattle.ecma_token.specs.View.{error_view}
use Rattle.ecma_escape.specs.EscapeMeanings.{opens_escape}
use Rattle.ecma_place.specs.Cursor.{rest}
use Rattle.ecma_grammar.specs.Found.{fault_view, value_view}
use Rattle.ecma_escape.proofs.StringReading.{plain-value, escaped-value, bad-value, not-borrowed}
use Rattle.ecma_string.proofs.string.string_value.Goals as goal

pub returns-then-not-at_escape : goal.returns-then-not-at_escape
returns-then-not-at_escape c =
    let not : opens_escape (rest c.plain_text-plain.new.input) ≡ false = sym c.at_escape.ensures ∙ c.if-not-at_escape.true in
    let all = plain-value c.args.quote c.args.input.now c.plain_text-plain.new.input _ (map fault_view c.args.faults.now.items) c.plain_text-plain.ensures.moved c.plain_text-plain.ensures.text not in
    record { value = ap (λ a. Ok a) c.from.ensures ∙ all.value; faults = all.faults; moved = all.moved; free = λ atom h b. refl }

pub returns-in_err-text-clause-free : goal.returns-in_err-text-clause-free
returns-in_err-text-clause-free c = λ atom h b.
    let opens : opens_escape (rest c.plain_text-plain.new.input) ≡ true = sym c.at_escape.ensures ∙ c.if-not-at_escape.false in
    absurd (not-borrowed c.args.quote c.args.input.now c.plain_text-plain.new.input atom c.plain_text-plain.ensures.moved opens h b)

pub returns-in-Ok : goal.returns-in-Ok
returns-in-Ok c =
    let opens : opens_escape (rest c.plain_text-plain.new.input) ≡ true = sym c.at_escape.ensures ∙ c.if-not-at_escape.false in
    let value = sym (ap (value_view string_bytes) c.in-Ok.is) ∙ c.in_ok-text.ensures.value in
    let all = escaped-value c.args.quote c.args.input.now c.plain_text-plain.new.input c.escaped_text.new.input c.plain_text-plain.result.now (string_bytes c.in-Ok.text) (map fault_view c.args.faults.now.items) _
    c.plain_text-plain.ensures.moved c.plain_text-plain.ensures.text opens value c.in_ok-text.ensures.faults c.in_ok-text.ensures.moved in
    record { value = ap (λ a. Ok a) c.from-in-Ok.ensures ∙ all.value; faults = all.faults; moved = all.moved; free = λ atom h b. refl }

pub returns-in-Err : goal.returns-in-Err
returns-in-Err c =
    let value = sym (ap (value_view string_bytes) c.in-Err.is) ∙ c.in_ok-text.ensures.value in
    let all = bad-value c.args.quote c.args.input.now c.plain_text-plain.new.input c.escaped_text.new.input c.plain_text-plain.result.now (map fault_view c.args.faults.now.items) _ (error_view c.in-Err.error)
    c.plain_text-plain.ensures.moved c.plain_text-plain.ensures.text value c.in_ok-text.ensures.faults c.in_ok-text.ensures.moved in
    record { value = all.value; faults = all.faults; moved = all.moved; free = λ atom h b. refl }
