-- The first rows were written.
use Rattle.std.proofs.Common.{◌≡◌, take}
use Rattle.ecma_rows.specs.Told.{written}
use Rattle.ecma_rows.proofs.room.write_all.Given as goal

abbrev pub invariant-loop-row : goal.invariant-loop-row
invariant-loop-row g l = (l.count ≡ l.row-index) × (l.room ≡ written (take l.row-index l.rows) l.initial.room)
