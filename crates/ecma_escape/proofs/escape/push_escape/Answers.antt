use Rattle.std.proofs.Common.{ap, sym, ◌∙◌, arith}
use Rattle.ecma_place.specs.Cursor.{rest, place}
use Rattle.ecma_place.proofs.MoveLemmas.{place-passed-le}
use Rattle.ecma_place.proofs.RunLemmas.{further-start, further-step, further-HasPlace}
use Rattle.ecma_grammar.specs.Found.{error_behind}
use Rattle.ecma_escape.specs.EscapeMeanings.{use_of}
use Rattle.ecma_escape.specs.declared.escape.Meaning.TheVariants as answer
use Rattle.std.specs.Prelude.{option_map}
use Rattle.ecma_escape.proofs.EscapeSpans.{IsRead, refused-error, escape-text, value-behind, faults-behind, not-refused, octal-room, nothing-is}
use Rattle.ecma_escape.proofs.escape.push_escape.Goals as goal

pub error_of_refusal-requires-clause-order : goal.error_of_refusal-requires-clause-order
error_of_refusal-requires-clause-order c =
    let le = place-passed-le c.args.input.now c.read_escape-answer.new.input _ c.in-Refused.ensures.moved in
    omega (arith, le, c.cur_pos-start.ensures, c.cur_pos.ensures)

pub returns-in-Refused-clause-refusal : goal.returns-in-Refused-clause-refusal
returns-in-Refused-clause-refusal c =
    let read : IsRead (use_of c.args.within) (answer.Refused c.in-Refused.refusal) c.args.input.now c.read_escape-answer.new.input =
    record { opens = c.requires.opens; answer = c.in-Refused.ensures.answer; moved = c.in-Refused.ensures.moved } in
    refused-error (use_of c.args.within) c.in-Refused.refusal c.args.input.now c.read_escape-answer.new.input _ _ _ read c.cur_pos-start.ensures c.cur_pos.ensures c.in_ok-error.ensures

pub slice-requires : goal.slice-requires
slice-requires c =
    let moved = c.read_escape-answer.ensures.moved in
    let le = place-passed-le c.args.input.now c.read_escape-answer.new.input _ moved in
    let further = further-step _ _ _ _ (further-start c.args.input.now) moved in
    record {
      from_place = further-HasPlace _ _ _ further c.cur_pos-start.ensures;
      to_place = (c.read_escape-answer.new.input.at, c.cur_pos-2.ensures);
      in_order = omega (arith, le, c.cur_pos-start.ensures, c.cur_pos-2.ensures);
    }

pub returns-in_err-push_value-clause-free : goal.returns-in_err-push_value-clause-free
returns-in_err-push_value-clause-free c = λ empty accepted.
    let bad = c.in_err-push_value.ensures.free (nothing-is (use_of c.args.within) (rest c.args.input.now) c.read_escape-answer.result c.read_escape-answer.ensures.answer empty accepted) in
    cc

pub push_octal_fault-requires : goal.push_octal_fault-requires
push_octal_fault-requires c = λ x h.
    let read : IsRead (use_of c.args.within) c.read_escape-answer.result c.args.input.now c.read_escape-answer.new.input =
    record { opens = c.requires.opens; answer = c.read_escape-answer.ensures.answer; moved = c.read_escape-answer.ensures.moved } in
    let room = octal-room (use_of c.args.within) c.read_escape-answer.result x c.args.input.now c.read_escape-answer.new.input read h in
    omega (arith, room, c.cur_pos-start.ensures, c.cur_pos-2.ensures)

pub returns-clause-refusal : goal.returns-clause-refusal
returns-clause-refusal c =
    sym (ap (option_map (error_behind (place c.args.input.now))) (not-refused (use_of c.args.within) _ c.read_escape-answer.result _ c.read_escape-answer.ensures.answer c.in_default.not-Refused))

pub returns-clause-text : goal.returns-clause-text
returns-clause-text c =
    let read : IsRead (use_of c.args.within) c.read_escape-answer.result c.args.input.now c.read_escape-answer.new.input =
    record { opens = c.requires.opens; answer = c.read_escape-answer.ensures.answer; moved = c.read_escape-answer.ensures.moved } in
    let spelling = c.slice.ensures ∙ escape-text (use_of c.args.within) _ _ _ _ _ read c.cur_pos-start.ensures c.cur_pos-2.ensures in
    value-behind (use_of c.args.within) _ _ _ _ _ _ read spelling c.in_ok-push_value.ensures.text

pub returns-clause-faults : goal.returns-clause-faults
returns-clause-faults c =
    let read : IsRead (use_of c.args.within) c.read_escape-answer.result c.args.input.now c.read_escape-answer.new.input =
    record { opens = c.requires.opens; answer = c.read_escape-answer.ensures.answer; moved = c.read_escape-answer.ensures.moved } in
    faults-behind c.args.within _ _ _ _ _ _ read c.requires.within c.cur_pos-start.ensures c.in_ok-push_octal_fault.ensures.faults
