use Rattle.std.proofs.Common.{◌++◌, ap, sym, ◌∙◌, arith, map}
use Rattle.std.specs.Prelude.{option_map}
use Rattle.ecma_place.specs.Cursor.{place}
use Rattle.ecma_place.proofs.MoveLemmas.{place-passed-le}
use Rattle.ecma_place.proofs.RunLemmas.{further-start, further-step, further-HasPlace}
use Rattle.ecma_escape.specs.declared.escape.Use.TheVariants as place_of
use Rattle.ecma_escape.specs.declared.escape.Meaning.TheVariants as answer
use Rattle.ecma_grammar.specs.Escapes.{InWord}
use Rattle.ecma_grammar.specs.Found.{fault_view, error_behind}
use Rattle.ecma_name.specs.NameParts.{named_faults, is_named}
use Rattle.ecma_escape.proofs.EscapeSpans.{IsRead, refused-brace, refused-error, escape-text, value-behind, not-refused}
use Rattle.ecma_name.proofs.NameReading.{name-faults}
use Rattle.ecma_name.proofs.name.push_name_escape.Goals as goal

pub error_of_refusal-requires-clause-order : goal.error_of_refusal-requires-clause-order
error_of_refusal-requires-clause-order c =
    let le = place-passed-le c.args.input.now c.read_escape-answer.new.input _ c.in-Refused.ensures.moved in
    omega (arith, le, c.cur_pos-start.ensures, c.cur_pos-end.ensures)

pub error_of_refusal-requires-clause-brace : goal.error_of_refusal-requires-clause-brace
error_of_refusal-requires-clause-brace c =
    let read : IsRead InWord (answer.Refused c.in-Refused.refusal) c.args.input.now c.read_escape-answer.new.input =
    record { opens = c.requires; answer = c.in-Refused.ensures.answer; moved = c.in-Refused.ensures.moved } in
    refused-brace place_of.InWord c.in-Refused.refusal c.args.input.now c.read_escape-answer.new.input _ _ read c.cur_pos-start.ensures c.cur_pos-end.ensures

pub returns-in-Refused-clause-refusal : goal.returns-in-Refused-clause-refusal
returns-in-Refused-clause-refusal c =
    let read : IsRead InWord (answer.Refused c.in-Refused.refusal) c.args.input.now c.read_escape-answer.new.input =
    record { opens = c.requires; answer = c.in-Refused.ensures.answer; moved = c.in-Refused.ensures.moved } in
    refused-error InWord c.in-Refused.refusal c.args.input.now c.read_escape-answer.new.input _ _ _ read c.cur_pos-start.ensures c.cur_pos-end.ensures c.in_ok-error.ensures

pub slice-requires : goal.slice-requires
slice-requires c =
    let moved = c.read_escape-answer.ensures.moved in
    let le = place-passed-le c.args.input.now c.read_escape-answer.new.input _ moved in
    let further = further-step _ _ _ _ (further-start c.args.input.now) moved in
    record {
      from_place = further-HasPlace _ _ _ further c.cur_pos-start.ensures;
      to_place = (c.read_escape-answer.new.input.at, c.cur_pos-end.ensures);
      in_order = omega (arith, le, c.cur_pos-start.ensures, c.cur_pos-end.ensures);
    }

pub new-requires : goal.new-requires
new-requires c =
    let le = place-passed-le c.args.input.now c.read_escape-answer.new.input _ c.read_escape-answer.ensures.moved in
    omega (arith, le, c.cur_pos-start.ensures, c.cur_pos-end.ensures)

pub returns : goal.returns
returns c =
    let read : IsRead InWord c.read_escape-answer.result c.args.input.now c.read_escape-answer.new.input =
    record { opens = c.requires; answer = c.read_escape-answer.ensures.answer; moved = c.read_escape-answer.ensures.moved } in
    let spelling = c.slice.ensures ∙ escape-text InWord _ _ _ _ _ read c.cur_pos-start.ensures c.cur_pos-end.ensures in
    let was = map fault_view c.args.faults.now.items in
    let said = c.in_ok-push_name_fault.ensures
    ∙ ap (λ b. was ++ named_faults b c.new.result.lo.0 c.new.result.hi.0) c.is_named.ensures
    ∙ ap (λ s. was ++ named_faults (is_named c.args.is_first c.read_escape-answer.result) s.lo.0 s.hi.0) c.new.ensures in
    record {
      refusal = sym (ap (option_map (error_behind (place c.args.input.now))) (not-refused InWord _ c.read_escape-answer.result _ c.read_escape-answer.ensures.answer c.in_default.not-Refused));
      text = value-behind InWord _ _ _ _ _ _ read spelling c.in_ok-push_value.ensures.text;
      faults = name-faults c.args.is_first c.read_escape-answer.result _ _ was _ _ _ read c.in_default.not-Refused c.cur_pos-start.ensures c.cur_pos-end.ensures said;
      moved = c.read_escape-answer.ensures.moved;
    }
