use Rattle.ecma_scan.proofs.ShebangLaws.{shebang_is_local}
use Rattle.ecma_laws.proofs.laws.gaps.shebang_is_local.Goals as goal

pub returns : goal.returns
returns c = shebang_is_local
