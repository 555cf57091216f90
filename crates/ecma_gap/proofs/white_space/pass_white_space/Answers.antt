use Rattle.std.proofs.Common.{arith}
use Rattle.ecma_gap.proofs.WhiteLemmas.{past-flag, past-ends}
use Rattle.ecma_gap.proofs.white_space.pass_white_space.Goals as goal

pub returns-in-Some-clause-terminator : goal.returns-in-Some-clause-terminator
returns-in-Some-clause-terminator c =
    past-flag _ c.args.input.now c.pass_white_chunks-terminator.new.input c.in-Some.b c.in-Some.ensures (omega (arith, c.if-b-gt32.true)) c.pass_white_chunks-terminator.ensures.flag

pub returns-in-Some-clause-moved : goal.returns-in-Some-clause-moved
returns-in-Some-clause-moved c =
    past-ends c.args.input.now c.pass_white_chunks-terminator.new.input c.in-Some.b c.in-Some.ensures (omega (arith, c.if-b-gt32.true)) c.pass_white_chunks-terminator.ensures.same_end
