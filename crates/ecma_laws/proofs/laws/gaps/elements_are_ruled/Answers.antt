use Rattle.ecma_scan.proofs.GapForms.{elements_are_ruled}
use Rattle.ecma_laws.proofs.laws.gaps.elements_are_ruled.Goals as goal

pub returns : goal.returns
returns c = elements_are_ruled
