-- What was added, with what is left, escaped, is all bytes, escaped.
use Rattle.std.proofs.Common.{◌≡◌, ◌++◌, length}
use Rattle.ecma_stdio.specs.Escaped.{escaped}
use Rattle.ecma_stdio.proofs.escaped.push_escaped.Given as goal

abbrev pub invariant-runs : goal.invariant-runs
invariant-runs l = l.out.items ++ escaped l.left ≡ l.initial.out.items ++ escaped l.bytes

abbrev pub decreases-runs : goal.decreases-runs
decreases-runs l = length l.left
