-- The course is that of the steps so far.
use Rattle.std.proofs.Common.{take}
use Rattle.std.specs.Str.{chars}
use Rattle.ecma_replay.specs.Playing.{Stands}
use Rattle.ecma_state.specs.Run.{start_of}
use Rattle.ecma_replay.proofs.runner.gather.Given as goal

abbrev pub invariant-steps : goal.invariant-steps
invariant-steps l =
    Stands (start_of l.settings record { start = l.fn.start.0; text = chars l.source; at = 0 }) (take l.step-index l.steps) l.course
