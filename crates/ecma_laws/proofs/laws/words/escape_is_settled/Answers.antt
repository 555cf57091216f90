use Rattle.ecma_scan.proofs.EscapeLaws.{escape_is_settled}
use Rattle.ecma_laws.proofs.laws.words.escape_is_settled.Goals as goal

pub returns : goal.returns
returns c = escape_is_settled
