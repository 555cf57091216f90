use Rattle.ecma_modules.proofs.ScanLemmas.{rows-lie}
use Rattle.ecma_modules.proofs.laws.rows_lie_in_tokens.Goals as goal

pub returns : goal.returns
returns c = rows-lie
