use Rattle.ecma_scan.proofs.PunctuatorLaws.{no_punctuator_is_missed}
use Rattle.ecma_laws.proofs.laws.punctuators.no_punctuator_is_missed.Goals as goal

pub returns : goal.returns
returns c = no_punctuator_is_missed
