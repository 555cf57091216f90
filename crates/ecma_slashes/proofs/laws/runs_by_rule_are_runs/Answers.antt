use Rattle.ecma_slashes.proofs.RunLemmas.{runs_by_rule_are_runs}
use Rattle.ecma_slashes.proofs.laws.runs_by_rule_are_runs.Goals as goal

pub returns : goal.returns
returns c = runs_by_rule_are_runs
