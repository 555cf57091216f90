use Rattle.std.proofs.Common.{sym, ap, ◌∙◌}
use Rattle.std.specs.Prelude.{is_some}
use Rattle.ecma_place.specs.Cursor.{rest}
use Rattle.ecma_gap.proofs.NextElements.{special-behind, special-closing, special-marker, closing-stands}
use Rattle.ecma_gap.proofs.gap.stands_special.Goals as goal

pub returns-then-is_str : goal.returns-then-is_str
returns-then-is_str c =
    c.if-is_str.true
    ∙ sym (ap is_some (special-behind c.args.type_mode c.args.flag (rest c.args.input.now) _ (sym c.stands_html_opening.ensures ∙ c.if-stands_html_opening.false) c.if-flag.true
    (special-closing c.args.type_mode (rest c.args.input.now) (closing-stands _ _ _ c.is_str.ensures c.if-is_str.true))))

pub returns-else-is_str : goal.returns-else-is_str
returns-else-is_str c =
    c.stands_conflict.ensures
    ∙ sym (ap is_some (special-behind c.args.type_mode c.args.flag (rest c.args.input.now) _ (sym c.stands_html_opening.ensures ∙ c.if-stands_html_opening.false) c.if-flag.true
    (special-marker c.args.type_mode (rest c.args.input.now) (closing-stands _ _ _ c.is_str.ensures c.if-is_str.false))))
