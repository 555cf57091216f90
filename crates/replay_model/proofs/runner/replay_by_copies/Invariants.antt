-- The runner has come to where the steps so far lead.
use Rattle.std.proofs.Common.{take}
use Rattle.std.specs.Str.{chars}
use Rattle.replay_model.specs.Copies.{Follows}
use Rattle.ecma_state.specs.Run.{start_of}
use Rattle.replay_model.proofs.runner.replay_by_copies.Given as goal

abbrev pub invariant-steps : goal.invariant-steps
invariant-steps l =
    Follows (start_of l.settings record { start = l.fn.start.0; text = chars l.source; at = 0 }) (take l.step-index l.steps) l.runner
