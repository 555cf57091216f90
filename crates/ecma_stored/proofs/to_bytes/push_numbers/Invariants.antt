use Rattle.std.proofs.Common.{◌≡◌, ◌++◌, flat_map, take}
use Rattle.std.specs.Int.{w32, to_le_bytes}
use Rattle.ecma_stored.proofs.to_bytes.push_numbers.Given as goal

abbrev pub invariant-loop-number : goal.invariant-loop-number
invariant-loop-number l = l.out.items ≡ l.fn.out.items ++ flat_map (to_le_bytes w32) (take l.number-index l.numbers)
