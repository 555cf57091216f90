use Rattle.ecma_scan.proofs.GapLaws.{flag_is_behind}
use Rattle.ecma_laws.proofs.laws.gaps.flag_is_behind.Goals as goal

pub returns : goal.returns
returns c = flag_is_behind
