use Rattle.ecma_clean.proofs.RuleLaws.{clean_runs_by_both_rules}
use Rattle.ecma_clean.proofs.laws.clean_runs_by_both_rules.Goals as goal

pub returns : goal.returns
returns c = clean_runs_by_both_rules
