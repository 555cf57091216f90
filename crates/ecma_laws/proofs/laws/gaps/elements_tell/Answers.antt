use Rattle.ecma_scan.proofs.TellingLaws.{elements_tell}
use Rattle.ecma_laws.proofs.laws.gaps.elements_tell.Goals as goal

pub returns : goal.returns
returns c = elements_tell
