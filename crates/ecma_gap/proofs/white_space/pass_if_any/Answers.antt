use Rattle.std.proofs.Common.{false, refl, arith}
use Rattle.ecma_gap.proofs.WhiteLemmas.{past-flag, past-ends}
use Rattle.ecma_gap.proofs.white_space.pass_if_any.Goals as goal

pub returns-in-Some-clause-terminator : goal.returns-in-Some-clause-terminator
returns-in-Some-clause-terminator c = past-flag false c.args.input.now c.args.input.now c.in-Some.b c.in-Some.ensures (omega (arith, c.if-b-gt32.true)) refl

pub returns-in-Some-clause-moved : goal.returns-in-Some-clause-moved
returns-in-Some-clause-moved c = past-ends c.args.input.now c.args.input.now c.in-Some.b c.in-Some.ensures (omega (arith, c.if-b-gt32.true)) refl
