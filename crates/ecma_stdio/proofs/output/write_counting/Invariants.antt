-- The first `sent` bytes of the text are what the writer has taken.
use Rattle.std.proofs.Common.{◌-◌, ◌≤◌, length, take}
use Rattle.std.specs.Io.KnownBytes.{Appends}
use Rattle.ecma_stdio.proofs.output.write_counting.Given as goal

abbrev pub invariant-writes : goal.invariant-writes
invariant-writes g l = (l.sent ≤ length l.text) × Appends (g.W.Write.contents l.initial.writer) (g.W.Write.contents l.writer) (take l.sent l.text)

abbrev pub decreases-writes : goal.decreases-writes
decreases-writes g l = length l.initial.text - l.sent
