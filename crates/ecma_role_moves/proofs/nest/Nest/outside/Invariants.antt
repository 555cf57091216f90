use Rattle.std.proofs.Common.{◌≡◌, drop}
use Rattle.ecma_role_moves.specs.Nest.{outside}
use Rattle.ecma_role_moves.proofs.nest.Nest.outside.Given as goal

abbrev pub invariant-frames : goal.invariant-frames
invariant-frames l = outside l.kinds (drop l.index l.self.nest.frames) ≡ outside l.kinds l.self.nest.frames
