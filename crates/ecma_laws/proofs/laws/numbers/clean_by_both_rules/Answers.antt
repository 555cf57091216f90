use Rattle.ecma_scan.proofs.NumberRules.{clean_by_both_rules}
use Rattle.ecma_laws.proofs.laws.numbers.clean_by_both_rules.Goals as goal

pub returns : goal.returns
returns c = clean_by_both_rules
