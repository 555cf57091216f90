use Rattle.ecma_stdio.proofs.Halting.{some_input, halts_reading}
use Rattle.ecma_measure.proofs.program.counted.Goals as goal

pub returns-in_err-input : goal.returns-in_err-input
returns-in_err-input g c = (_, some_input _, halts_reading _ _ _ _ c.from_residual.ensures.1 c.in_err-input.ensures.halts)
