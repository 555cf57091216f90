use Rattle.std.proofs.Common.{sym, ◌∙◌}
use Rattle.ecma_number.proofs.RunFaults.{legacy_said}
use Rattle.ecma_number.proofs.number.faults.push_legacy_fault.Goals as goal

pub returns-in_ok-push_fault-clause-faults : goal.returns-in_ok-push_fault-clause-faults
returns-in_ok-push_fault-clause-faults c =
    legacy_said c.args.start.0 c.args.run.now _ _ _ c.requires.run (sym c.is_legacy.ensures ∙ c.if-is_legacy.true) c.new-span.ensures c.in_ok-push_fault.ensures
