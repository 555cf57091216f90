use Rattle.ecma_place.specs.Cursor.{rest}
use Rattle.ecma_gap.proofs.NextElements.{gap-kept}
use Rattle.ecma_gap.proofs.gap.may_stand.Goals as goal

pub returns-else-not-mode-2 : goal.returns-else-not-mode-2
returns-else-not-mode-2 c = gap-kept c.args.mode.now (rest c.args.input.now) _ c.if-not-mode.true c.if-not-mode-2.false c.stands_special.ensures
