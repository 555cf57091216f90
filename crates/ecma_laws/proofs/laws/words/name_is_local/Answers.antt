use Rattle.ecma_scan.proofs.WordLaws.{name_is_local}
use Rattle.ecma_laws.proofs.laws.words.name_is_local.Goals as goal

pub returns : goal.returns
returns c = name_is_local
