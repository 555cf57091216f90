use Rattle.std.proofs.Common.{◌≡◌, ap, sym, ◌∙◌, refl, map, true, false}
use Rattle.std.specs.Prelude.{string_bytes}
use Rattle.ecma_place.specs.Character.{is_ident_part}
use Rattle.ecma_place.specs.Cursor.{rest}
use Rattle.ecma_token.specs.View.{error_view}
use Rattle.ecma_escape.specs.EscapeMeanings.{opens_escape}
use Rattle.ecma_grammar.specs.Found.{fault_view, value_view}
use Rattle.ecma_name.proofs.NameReading.{plain-name, escaped-text, bad-text, not-borrowed, first-behind}
use Rattle.ecma_escape.proofs.PieceReading.{run-stops}
use Rattle.ecma_name.proofs.name.name_text.Goals as goal

pub returns-then-not-at_escape : goal.returns-then-not-at_escape
returns-then-not-at_escape c =
    let not : opens_escape (rest c.part_characters-plain.new.input) ≡ false = sym c.at_escape.ensures ∙ c.if-not-at_escape.true in
    let all = plain-name c.args.input.now c.part_characters-plain.new.input c.part_characters-plain.result.now (map fault_view c.args.faults.now.items) c.part_characters-plain.ensures.moved c.part_characters-plain.ensures.text not in
    record { value = all.value; faults = all.faults; moved = all.moved; free = λ text h b. refl }

pub escaped_name-requires : goal.escaped_name-requires
escaped_name-requires c = run-stops is_ident_part c.args.input.now c.part_characters-plain.new.input c.part_characters-plain.ensures.moved

pub returns-in_err-text-clause-free : goal.returns-in_err-text-clause-free
returns-in_err-text-clause-free c = λ text h b.
    let opens : opens_escape (rest c.part_characters-plain.new.input) ≡ true = sym c.at_escape.ensures ∙ c.if-not-at_escape.false in
    absurd (not-borrowed c.args.input.now c.part_characters-plain.new.input text c.part_characters-plain.ensures.moved opens h b)

pub returns-in-Ok : goal.returns-in-Ok
returns-in-Ok c =
    let opens : opens_escape (rest c.part_characters-plain.new.input) ≡ true = sym c.at_escape.ensures ∙ c.if-not-at_escape.false in
    let value = sym (ap (value_view string_bytes) c.in-Ok.is) ∙ c.in_ok-text.ensures.value in
    let first = c.is_empty.ensures ∙ first-behind c.args.input.now c.part_characters-plain.result.now c.part_characters-plain.ensures.text in
    let all = escaped-text c.args.input.now c.part_characters-plain.new.input c.escaped_name.new.input c.is_empty.result c.part_characters-plain.result.now (string_bytes c.in-Ok.text) (map fault_view c.args.faults.now.items) _
    c.part_characters-plain.ensures.moved c.part_characters-plain.ensures.text opens first value c.in_ok-text.ensures.faults c.in_ok-text.ensures.moved in
    record { value = all.value; faults = all.faults; moved = all.moved; free = λ text h b. refl }

pub returns-in-Err : goal.returns-in-Err
returns-in-Err c =
    let value = sym (ap (value_view string_bytes) c.in-Err.is) ∙ c.in_ok-text.ensures.value in
    let first = c.is_empty.ensures ∙ first-behind c.args.input.now c.part_characters-plain.result.now c.part_characters-plain.ensures.text in
    let all = bad-text c.args.input.now c.part_characters-plain.new.input c.escaped_name.new.input c.is_empty.result c.part_characters-plain.result.now (map fault_view c.args.faults.now.items) _ (error_view c.in-Err.error)
    c.part_characters-plain.ensures.moved c.part_characters-plain.ensures.text first value c.in_ok-text.ensures.faults c.in_ok-text.ensures.moved in
    record { value = all.value; faults = all.faults; moved = all.moved; free = λ text h b. refl }
