use Rattle.ecma_scan.proofs.PunctuatorLaws.{punctuator_is_local}
use Rattle.ecma_laws.proofs.laws.punctuators.punctuator_is_local.Goals as goal

pub returns : goal.returns
returns c = punctuator_is_local
