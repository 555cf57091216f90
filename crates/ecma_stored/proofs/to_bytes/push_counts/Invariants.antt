use Rattle.std.proofs.Common.{◌≡◌, ◌++◌, flat_map, take}
use Rattle.std.specs.Int.{w64, to_le_bytes}
use Rattle.ecma_stored.proofs.to_bytes.push_counts.Given as goal

abbrev pub invariant-loop-count : goal.invariant-loop-count
invariant-loop-count l = l.out.items ≡ l.fn.out.items ++ flat_map (to_le_bytes w64) (take l.count-index l.counts)
