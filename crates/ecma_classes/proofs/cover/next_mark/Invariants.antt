-- Marks that were passed begin before the place.
use Rattle.std.proofs.Common.{◌≡◌, ℕ, length}
use Rattle.ecma_classes.specs.Marks.{left, walked}
use Rattle.ecma_classes.proofs.cover.next_mark.Given as goal

abbrev pub invariant-marks : goal.invariant-marks
invariant-marks l = (high : ℕ) → walked l.reached.0 (left l.initial.marks) high ≡ walked l.reached.0 (left l.marks) high

abbrev pub decreases-marks : goal.decreases-marks
decreases-marks l = length (left l.marks)
