use Rattle.std.proofs.Common.{◌≡◌, ◌+◌, ◌++◌, false, length, map}
use Rattle.ecma_grammar.specs.Found.{fault_view}
use Rattle.ecma_grammar.specs.Numbers.{IsRun, faulty_separators}
use Rattle.ecma_number.proofs.RunFaults.{said}
use Rattle.ecma_number.proofs.number.faults.push_separators.Given as goal

-- what was said and what is still to be said is what is said from the start on
abbrev pub invariant-bytes : goal.invariant-bytes
invariant-bytes l = record {
  run : IsRun l.radix l.left;
  count : l.count + length l.left ≡ length l.run;
  faults : map fault_view l.faults.items ++ said l.start.0 (faulty_separators l.allowed l.radix l.seen l.count l.left)
      ≡ map fault_view l.fn.faults.items ++ said l.start.0 (faulty_separators l.allowed l.radix false 0 l.run);
}

abbrev pub decreases-bytes : goal.decreases-bytes
decreases-bytes l = length l.left
