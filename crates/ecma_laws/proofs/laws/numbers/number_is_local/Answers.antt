use Rattle.ecma_scan.proofs.NumberLocal.{number_local}
use Rattle.ecma_laws.proofs.laws.numbers.number_is_local.Goals as goal

pub returns : goal.returns
returns c = number_local
