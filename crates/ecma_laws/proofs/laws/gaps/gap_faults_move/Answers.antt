use Rattle.ecma_scan.proofs.GapFaults.{gap_faults_move}
use Rattle.ecma_laws.proofs.laws.gaps.gap_faults_move.Goals as goal

pub returns : goal.returns
returns c = gap_faults_move
