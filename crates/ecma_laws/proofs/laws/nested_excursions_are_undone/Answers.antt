use Rattle.ecma_laws.proofs.NestedLemmas.{nested_excursions_are_undone}
use Rattle.ecma_laws.proofs.laws.nested_excursions_are_undone.Goals as goal

pub returns : goal.returns
returns c = nested_excursions_are_undone
