use Rattle.ecma_scan.proofs.GapLaws.{no_element}
use Rattle.ecma_laws.proofs.laws.gaps.no_element.Goals as goal

pub returns : goal.returns
returns c = no_element
