-- What was added, and the parts that are left, are all.
use Rattle.std.proofs.Common.{◌≡◌, ◌++◌, drop}
use Rattle.ecma_show.specs.Painted.{painted, painted_behind}
use Rattle.ecma_show.proofs.paint.push_parts.Given as goal

abbrev pub invariant-loop-part : goal.invariant-loop-part
invariant-loop-part l =
    l.out.items ++ painted_behind l.colours l.bytes l.before (drop l.part-index l.parts) ≡ l.fn.out.items ++ painted l.colours l.bytes l.parts
