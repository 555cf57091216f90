use Rattle.std.proofs.Common.{◌≡◌, ◌*◌, ◌≤◌, take}
use Rattle.ecma_positions.specs.Units.{utf16_length}
use Rattle.ecma_positions.proofs.columns.utf16_length.Given as goal

abbrev pub invariant-loop-byte : goal.invariant-loop-byte
invariant-loop-byte l = (l.units ≡ utf16_length (take l.byte-index l.bytes)) × (l.units ≤ 2 * l.byte-index)
