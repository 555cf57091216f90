-- What was added, the bytes behind it that are to be added as they are, and what stands for those that are left, are all.
use Rattle.std.proofs.Common.{◌≡◌, ◌++◌, ◌≤◌, drop}
use Rattle.std.specs.Prelude.{slice_range}
use Rattle.ecma_show.specs.Painted.{each_behind, painted_byte}
use Rattle.ecma_show.proofs.paint.push_bytes.Given as goal

abbrev pub invariant-loop-place : goal.invariant-loop-place
invariant-loop-place l =
    (l.done ≤ l.place)
    × ((l.out.items ++ slice_range l.bytes l.done l.place) ++ each_behind (painted_byte l.colour) l.last (drop l.place l.bytes)
    ≡ l.initial.out.items ++ each_behind (painted_byte l.colour) l.before l.bytes)
