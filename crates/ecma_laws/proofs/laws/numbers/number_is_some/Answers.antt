use Rattle.ecma_scan.proofs.NumberLocal.{number_some}
use Rattle.ecma_laws.proofs.laws.numbers.number_is_some.Goals as goal

pub returns : goal.returns
returns c = number_some
