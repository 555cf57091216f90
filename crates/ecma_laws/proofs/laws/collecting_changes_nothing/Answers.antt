use Rattle.ecma_laws.proofs.CollectingLemmas.{collecting_changes_nothing}
use Rattle.ecma_laws.proofs.laws.collecting_changes_nothing.Goals as goal

pub returns : goal.returns
returns c = collecting_changes_nothing
