use Rattle.ecma_scan.proofs.NumberLaws.{number_back}
use Rattle.ecma_laws.proofs.laws.numbers.number_is_read.Goals as goal

pub returns : goal.returns
returns c = number_back
