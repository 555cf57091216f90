use Rattle.ecma_scan.proofs.TellingLaws.{opening_fault_is_next}
use Rattle.ecma_laws.proofs.laws.gaps.opening_fault_is_next.Goals as goal

pub returns : goal.returns
returns c = opening_fault_is_next
