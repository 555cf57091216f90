use Rattle.ecma_slashes.proofs.RunLemmas.{runs_by_rule_end}
use Rattle.ecma_slashes.proofs.laws.runs_by_rule_end.Goals as goal

pub returns : goal.returns
returns c = runs_by_rule_end
