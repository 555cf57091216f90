use Rattle.ecma_positions.proofs.UnitLemmas.{units-of-text}
use Rattle.ecma_positions.proofs.columns.units_are_of_utf16.Goals as goal

pub returns : goal.returns
returns c = units-of-text
