use Rattle.std.proofs.Common.{◌≡◌}
use Rattle.ecma_place.specs.Cursor.{passed}
use Rattle.ecma_gap.proofs.element.pass.Given as goal

abbrev pub invariant-loop-passed : goal.invariant-loop-passed
invariant-loop-passed l = l.input ≡ passed l._passed l.fn.input
