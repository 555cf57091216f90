use Rattle.std.proofs.Common.{arith}
use Rattle.ecma_number.proofs.RunFaults.{run-behind, turn}
use Rattle.ecma_number.proofs.number.faults.push_separators.Goals as goal

pub bytes-preserved : goal.bytes-preserved
bytes-preserved c =
    let (same, less) = c.in-Some.ensures.cases in
    let run = rw same at c.bytes.invariant.run in
    record {
      run = run-behind c.args.radix c.in-Some.b.now c.in-Some.behind.now run;
      count = omega (arith, c.bytes.invariant.count, less);
      faults = turn c.args.start.0 c.args.allowed c.args.radix c.bytes.seen c.bytes.count c.in-Some.b.now c.in-Some.behind.now _ _ _ run (rw c.is_faulty.ensures at c.in_ok-push_separator.ensures) (rw same at c.bytes.invariant.faults);
    }
