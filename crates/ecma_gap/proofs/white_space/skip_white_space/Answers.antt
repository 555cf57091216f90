use Rattle.ecma_gap.proofs.WhiteLemmas.{spaced}
use Rattle.ecma_gap.proofs.white_space.skip_white_space.Goals as goal

pub returns-clause-terminator : goal.returns-clause-terminator
returns-clause-terminator c =
    (spaced c.args.input.now c.eat_byte.new.self _ c.eat_byte.result _ c.eat_byte.ensures.value c.eat_byte.ensures.moved c.pass_if_any.ensures.terminator c.pass_if_any.ensures.moved).0

pub returns-clause-moved : goal.returns-clause-moved
returns-clause-moved c =
    (spaced c.args.input.now c.eat_byte.new.self _ c.eat_byte.result _ c.eat_byte.ensures.value c.eat_byte.ensures.moved c.pass_if_any.ensures.terminator c.pass_if_any.ensures.moved).1
