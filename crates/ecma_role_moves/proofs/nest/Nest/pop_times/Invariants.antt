use Rattle.std.proofs.Common.{◌≡◌, ◌+◌, ◌≤◌, ℕ}
use Rattle.ecma_role_moves.specs.Nest.{popped_times}
use Rattle.ecma_role_moves.proofs.nest.Nest.pop_times.Given as goal

abbrev pub invariant-levels : goal.invariant-levels
invariant-levels l = ((n : ℕ) → n + l.level ≡ l.count → popped_times n l.self.nest ≡ popped_times l.count l.fn.self.nest) × (l.fn.self.room ≤ l.self.room)
