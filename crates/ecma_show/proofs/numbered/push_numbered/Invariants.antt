-- What was added, and the lines that are left, are all; the numbers of lines are small.
use Rattle.std.proofs.Common.{◌≡◌, ◌+◌, ◌++◌, ◌≤◌, drop, length}
use Rattle.ecma_show.specs.Shown.{numbered}
use Rattle.ecma_show.proofs.numbered.push_numbered.Given as goal

abbrev pub invariant-lines : goal.invariant-lines
invariant-lines l =
    record {
      added : l.out.items ++ numbered l.text l.frame l.number (drop l.behind l.marks) l.left ≡ l.initial.out.items ++ numbered l.text l.frame 1 l.marks l.painted;
      small : l.number + length l.left ≤ length l.painted + 1;
      within : l.behind ≤ length l.marks;
    }

abbrev pub decreases-lines : goal.decreases-lines
decreases-lines l = length l.left
