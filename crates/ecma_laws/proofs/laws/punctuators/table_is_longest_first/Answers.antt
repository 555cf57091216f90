use Rattle.ecma_scan.proofs.PunctuatorLaws.{table_is_longest_first}
use Rattle.ecma_laws.proofs.laws.punctuators.table_is_longest_first.Goals as goal

pub returns : goal.returns
returns c = table_is_longest_first
