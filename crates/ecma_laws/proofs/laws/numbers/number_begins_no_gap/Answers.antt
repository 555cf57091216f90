use Rattle.ecma_scan.proofs.NumberLocal.{number_begins_no_gap}
use Rattle.ecma_laws.proofs.laws.numbers.number_begins_no_gap.Goals as goal

pub returns : goal.returns
returns c = number_begins_no_gap
