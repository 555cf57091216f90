use Rattle.std.proofs.Common.{◌≡◌, Bool, Option, sym, ap, ◌∙◌, subst, length}
use Rattle.std.specs.Prelude.{is_some, IfOk, OnOk}
use Rattle.ecma_place.specs.Cursor.{rest, place, passed}
use Rattle.ecma_grammar.specs.Gaps.{Element}
use Rattle.ecma_gap.specs.GapRecords.{gap_so_far, with_next, next_text}
use Rattle.ecma_gap.proofs.NextElements.{special-behind, special-closing, special-marker, closing-stands, next-said, next-moved, next-free}
use Rattle.ecma_gap.proofs.element.read_special.Goals as goal

pub read_html_closing-requires : goal.read_html_closing-requires
read_html_closing-requires c =
    closing-stands _ _ _ c.is_str.ensures c.if-is_str.true

pub returns-in_err-read_html_closing-clause-free : goal.returns-in_err-read_html_closing-clause-free
returns-in_err-read_html_closing-clause-free c =
    λ h. let no = rw c.in_err-read_html_closing.was at (c.read_html_closing.ensures.free (next-free c.args.mode.now (place c.args.input.now) (rest c.args.input.now) (gap_so_far c.args.so_far.now) _ _ (special-behind c.args.mode.now.type_mode c.args.so_far.now.line_break (rest c.args.input.now) _ (sym c.stands_html_opening.ensures ∙ c.if-stands_html_opening.false) c.if-not-so_far.false (special-closing c.args.mode.now.type_mode (rest c.args.input.now) (closing-stands _ _ _ c.is_str.ensures c.if-is_str.true))) h)) in cc

pub returns-in_ok-read_html_closing-clause-more : goal.returns-in_ok-read_html_closing-clause-more
returns-in_ok-read_html_closing-clause-more c =
    sym (ap is_some (special-behind c.args.mode.now.type_mode c.args.so_far.now.line_break (rest c.args.input.now) _ (sym c.stands_html_opening.ensures ∙ c.if-stands_html_opening.false) c.if-not-so_far.false (special-closing c.args.mode.now.type_mode (rest c.args.input.now) (closing-stands _ _ _ c.is_str.ensures c.if-is_str.true))))

pub returns-in_ok-read_html_closing-clause-so_far : goal.returns-in_ok-read_html_closing-clause-so_far
returns-in_ok-read_html_closing-clause-so_far c =
    next-said c.args.mode.now (place c.args.input.now) (rest c.args.input.now) (gap_so_far c.args.so_far.now) _ _ _ (special-behind c.args.mode.now.type_mode c.args.so_far.now.line_break (rest c.args.input.now) _ (sym c.stands_html_opening.ensures ∙ c.if-stands_html_opening.false) c.if-not-so_far.false (special-closing c.args.mode.now.type_mode (rest c.args.input.now) (closing-stands _ _ _ c.is_str.ensures c.if-is_str.true))) c.in_ok-read_html_closing.ensures.so_far

pub returns-in_ok-read_html_closing-clause-moved : goal.returns-in_ok-read_html_closing-clause-moved
returns-in_ok-read_html_closing-clause-moved c =
    next-moved c.args.input.now _ _ _ (special-behind c.args.mode.now.type_mode c.args.so_far.now.line_break (rest c.args.input.now) _ (sym c.stands_html_opening.ensures ∙ c.if-stands_html_opening.false) c.if-not-so_far.false (special-closing c.args.mode.now.type_mode (rest c.args.input.now) (closing-stands _ _ _ c.is_str.ensures c.if-is_str.true))) c.in_ok-read_html_closing.ensures.moved

pub returns-else-is_str-clause-more : goal.returns-else-is_str-clause-more
returns-else-is_str-clause-more c =
    subst (λ (o : Option Element). IfOk c.read_conflict.result (λ (more : Bool). more ≡ is_some o)) (sym (special-behind c.args.mode.now.type_mode c.args.so_far.now.line_break (rest c.args.input.now) _ (sym c.stands_html_opening.ensures ∙ c.if-stands_html_opening.false) c.if-not-so_far.false (special-marker c.args.mode.now.type_mode (rest c.args.input.now) (closing-stands _ _ _ c.is_str.ensures c.if-is_str.false)))) c.read_conflict.ensures.more

pub returns-else-is_str-clause-so_far : goal.returns-else-is_str-clause-so_far
returns-else-is_str-clause-so_far c =
    subst (λ (o : Option Element). OnOk c.read_conflict.result (gap_so_far c.read_conflict.new.so_far ≡ with_next c.args.mode.now (place c.args.input.now) (rest c.args.input.now) o (gap_so_far c.args.so_far.now))) (sym (special-behind c.args.mode.now.type_mode c.args.so_far.now.line_break (rest c.args.input.now) _ (sym c.stands_html_opening.ensures ∙ c.if-stands_html_opening.false) c.if-not-so_far.false (special-marker c.args.mode.now.type_mode (rest c.args.input.now) (closing-stands _ _ _ c.is_str.ensures c.if-is_str.false)))) c.read_conflict.ensures.so_far

pub returns-else-is_str-clause-moved : goal.returns-else-is_str-clause-moved
returns-else-is_str-clause-moved c =
    subst (λ (o : Option Element). OnOk c.read_conflict.result (c.read_conflict.new.input ≡ passed (length (next_text o)) c.args.input.now)) (sym (special-behind c.args.mode.now.type_mode c.args.so_far.now.line_break (rest c.args.input.now) _ (sym c.stands_html_opening.ensures ∙ c.if-stands_html_opening.false) c.if-not-so_far.false (special-marker c.args.mode.now.type_mode (rest c.args.input.now) (closing-stands _ _ _ c.is_str.ensures c.if-is_str.false)))) c.read_conflict.ensures.moved
