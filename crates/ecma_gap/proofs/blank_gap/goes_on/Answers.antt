use Rattle.std.proofs.Common.{sym, ◌∙◌}
use Rattle.ecma_place.specs.Cursor.{rest}
use Rattle.ecma_gap.proofs.PairLemmas.{either-first, either-other, second-either, second-neither}
use Rattle.ecma_gap.proofs.blank_gap.goes_on.Goals as goal

pub returns-then-b-one : goal.returns-then-b-one
returns-then-b-one c =
    either-first _ _ _ _ c.if-b-one.true
    (second-either (rest c.args.input.now) c.in-Some.b c.args.one c.args.other c.requires.first c.requires.ascii (sym c.in-Some.is ∙ c.byte_ahead.ensures.byte))

pub returns-else-b-one : goal.returns-else-b-one
returns-else-b-one c =
    either-other _ c.args.one _ _ c.if-b-one.false
    (second-either (rest c.args.input.now) c.in-Some.b c.args.one c.args.other c.requires.first c.requires.ascii (sym c.in-Some.is ∙ c.byte_ahead.ensures.byte))

pub returns-in-None : goal.returns-in-None
returns-in-None c = second-neither (rest c.args.input.now) c.args.one c.args.other c.requires.first c.requires.ascii (sym c.in-None.is ∙ c.byte_ahead.ensures.byte)
