use Rattle.ecma_scan.proofs.PunctuatorLaws.{punctuator_is_longest}
use Rattle.ecma_laws.proofs.laws.punctuators.punctuator_is_longest.Goals as goal

pub returns : goal.returns
returns c = punctuator_is_longest
