-- What was added, and those that are left, are all.
use Rattle.std.proofs.Common.{◌≡◌, ◌++◌, ◌≤◌, ◌-◌, drop, length}
use Rattle.ecma_show.specs.Shown.{marks_at, marks_behind}
use Rattle.ecma_show.proofs.numbered.push_marks_at.Given as goal

abbrev pub invariant-marks : goal.invariant-marks
invariant-marks l =
    record {
      added : l.out.items ++ marks_at l.text l.frame l.number (drop l.done l.marks) ≡ l.initial.out.items ++ marks_at l.text l.frame l.number (drop l.behind l.marks);
      left : marks_behind l.number (drop l.done l.marks) ≡ marks_behind l.number (drop l.behind l.marks);
      within : l.done ≤ length l.marks;
    }

abbrev pub decreases-marks : goal.decreases-marks
decreases-marks l = length l.marks - l.done
