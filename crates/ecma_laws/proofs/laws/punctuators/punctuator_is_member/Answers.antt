use Rattle.ecma_scan.proofs.PunctuatorLaws.{punctuator_is_member}
use Rattle.ecma_laws.proofs.laws.punctuators.punctuator_is_member.Goals as goal

pub returns : goal.returns
returns c = punctuator_is_member
