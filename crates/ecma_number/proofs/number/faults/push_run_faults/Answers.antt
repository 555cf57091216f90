use Rattle.std.proofs.Common.{sym, ◌∙◌}
use Rattle.ecma_number.proofs.RunFaults.{none_said}
use Rattle.ecma_number.proofs.number.faults.push_run_faults.Goals as goal

pub returns-else-has_separator-clause-faults : goal.returns-else-has_separator-clause-faults
returns-else-has_separator-clause-faults c = none_said c.args.start.0 c.args.allowed c.args.radix c.args.run.now _ (sym c.has_separator.ensures ∙ c.if-has_separator.false)
