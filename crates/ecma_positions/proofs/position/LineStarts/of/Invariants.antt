-- The lines that begin in the first bytes.
use Rattle.std.proofs.Common.{◌≡◌, take}
use Rattle.ecma_positions.specs.Positions.{line_starts}
use Rattle.ecma_positions.proofs.position.LineStarts.of.Given as goal

abbrev pub invariant-loop-byte : goal.invariant-loop-byte
invariant-loop-byte l = (l.place ≡ l.byte-index) × (l.starts.items ≡ line_starts (take l.byte-index l.bytes))
