use Rattle.ecma_place.specs.Cursor.{rest}
use Rattle.ecma_gap.proofs.NextElements.{html-stands}
use Rattle.ecma_gap.proofs.element.stands_html_opening.Goals as goal

pub returns-then-not-type_mode : goal.returns-then-not-type_mode
returns-then-not-type_mode c = html-stands (rest c.args.input.now) _ _ c.is_str.ensures c.if-not-type_mode.true
