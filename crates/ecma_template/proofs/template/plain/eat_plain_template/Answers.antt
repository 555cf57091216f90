use Rattle.std.proofs.Common.{◌≡◌, ◌&&◌, false, sym, ◌∙◌, arith, true≢false}
use Rattle.ecma_place.specs.Cursor.{rest}
use Rattle.ecma_place.proofs.MoveLemmas.{place-passed-le}
use Rattle.ecma_grammar.specs.Locality.{ends_template}
use Rattle.ecma_template.proofs.PlainTemplateFound.{mark-plain, text-plain, text-unterminated, text-refused, comes-back, text-other, unasked, unmarked}
use Rattle.ecma_template.proofs.template.plain.eat_plain_template.Goals.{else-after_template-via-then-after_template+else-is_at_mark, else-after_template-via-else-after_template}
use Rattle.ecma_template.proofs.template.plain.eat_plain_template.Goals as goal

pub returns-then-is_at_mark-clause-found : goal.returns-then-is_at_mark-clause-found
returns-then-is_at_mark-clause-found c =
    mark-plain c.args.after_template c.args.input.now c.read_mark.new.input _ c.if-after_template.true (sym c.is_at_mark.ensures ∙ c.if-is_at_mark.true) c.read_mark.ensures.value c.read_mark.ensures.moved

pub slice-text-requires-clause-in_order : goal.slice-text-requires-clause-in_order
slice-text-requires-clause-in_order c =
    omega (arith, place-passed-le _ _ _ c.pass_verbatim-line_break.ensures.passed.moved, c.cur_pos-start.ensures, c.cur_pos.ensures)

pub returns-then-is_at_mark-2-clause-found : goal.returns-then-is_at_mark-2-clause-found
returns-then-is_at_mark-2-clause-found c =
    let text : (c.args.after_template && ends_template (rest c.args.input.now)) ≡ false = elim c.else-after_template.branch [
      | else-after_template-via-then-after_template+else-is_at_mark w ↦ unmarked c.args.after_template _ (sym w.is_at_mark.ensures ∙ w.if-is_at_mark.false)
      | else-after_template-via-else-after_template w ↦ unasked c.args.after_template _ w.if-after_template.false
    ] in
    text-plain c.args.after_template c.pass_verbatim-line_break.result c.args.input.now c.pass_verbatim-line_break.new.input c.from.result c.from-then-is_at_mark-2.result c.slice-text.result.now _ _ text
    c.pass_verbatim-line_break.ensures.passed (sym c.is_at_mark-2.ensures ∙ c.if-is_at_mark-2.true) c.slice-text.ensures c.cur_pos-start.ensures c.cur_pos.ensures c.from.ensures c.from-then-is_at_mark-2.ensures

pub returns-in-None-clause-found : goal.returns-in-None-clause-found
returns-in-None-clause-found c =
    let text : (c.args.after_template && ends_template (rest c.args.input.now)) ≡ false = elim c.else-after_template.branch [
      | else-after_template-via-then-after_template+else-is_at_mark w ↦ unmarked c.args.after_template _ (sym w.is_at_mark.ensures ∙ w.if-is_at_mark.false)
      | else-after_template-via-else-after_template w ↦ unasked c.args.after_template _ w.if-after_template.false
    ] in
    text-unterminated c.args.after_template c.pass_verbatim-line_break.result c.args.input.now c.pass_verbatim-line_break.new.input text c.pass_verbatim-line_break.ensures.passed (sym c.in-None.ensures.first)

pub returns-in-Some-clause-found : goal.returns-in-Some-clause-found
returns-in-Some-clause-found c =
    λ opened. c.reset_to.ensures ∙ comes-back c.pass_verbatim-line_break.result c.args.input.now c.pass_verbatim-line_break.new.input _ _ c.pass_verbatim-line_break.ensures.passed c.cur_pos-start.ensures (sym c.in-Some.ensures.first)

pub returns-in-None-clause-plain : goal.returns-in-None-clause-plain
returns-in-None-clause-plain c = λ verbatim accepted.
    let text : (c.args.after_template && ends_template (rest c.args.input.now)) ≡ false = elim c.else-after_template.branch [
      | else-after_template-via-then-after_template+else-is_at_mark w ↦ unmarked c.args.after_template _ (sym w.is_at_mark.ensures ∙ w.if-is_at_mark.false)
      | else-after_template-via-else-after_template w ↦ unasked c.args.after_template _ w.if-after_template.false
    ] in
    let refused = text-refused c.args.after_template c.pass_verbatim-line_break.result c.args.input.now c.pass_verbatim-line_break.new.input text c.pass_verbatim-line_break.ensures.passed (sym c.in-None.ensures.first) in
    absurd (true≢false (sym accepted ∙ refused))

pub returns-in-Some-clause-plain : goal.returns-in-Some-clause-plain
returns-in-Some-clause-plain c = λ verbatim accepted.
    let other = text-other c.pass_verbatim-line_break.result c.args.input.now c.pass_verbatim-line_break.new.input _ c.pass_verbatim-line_break.ensures.passed (sym c.in-Some.ensures.first) (sym c.is_at_mark-2.ensures ∙ c.if-is_at_mark-2.false) c.pass_verbatim-line_break.ensures.stops in
    absurd (true≢false (sym verbatim ∙ other))
