use Rattle.ecma_scan.proofs.PunctuatorLaws.{punctuator_begins_no_gap}
use Rattle.ecma_laws.proofs.laws.punctuators.punctuator_begins_no_gap.Goals as goal

pub returns : goal.returns
returns c = punctuator_begins_no_gap
