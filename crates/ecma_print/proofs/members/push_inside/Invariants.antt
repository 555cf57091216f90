-- What was added, and the bytes behind it that are to be added as they are, are the front of the bytes, escaped.
use Rattle.std.proofs.Common.{◌≡◌, ◌++◌, ◌≤◌, take}
use Rattle.std.specs.Prelude.{slice_range}
use Rattle.json.specs.Print.{escape}
use Rattle.ecma_print.proofs.members.push_inside.Given as goal

abbrev pub invariant-loop-place : goal.invariant-loop-place
invariant-loop-place l =
    (l.done ≤ l.place)
    × (l.out.items ++ slice_range l.bytes l.done l.place ≡ l.initial.out.items ++ escape (take l.place l.bytes))
