use Rattle.std.proofs.Common.{◌≡◌, ◌≤◌, length}
use Rattle.ecma_role_moves.specs.Nest.{dropped}
use Rattle.ecma_role_moves.proofs.nest.Nest.drop_all.Given as goal

abbrev pub invariant-frames : goal.invariant-frames
invariant-frames l = (dropped l.kinds l.self.nest ≡ dropped l.kinds l.fn.self.nest) × (l.fn.self.room ≤ l.self.room)

abbrev pub decreases-frames : goal.decreases-frames
decreases-frames l = length l.self.nest.frames
