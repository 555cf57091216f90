use Rattle.ecma_scan.proofs.PunctuatorLaws.{closers_are_local}
use Rattle.ecma_laws.proofs.laws.punctuators.closers_are_local.Goals as goal

pub returns : goal.returns
returns c = closers_are_local
