use Rattle.ecma_grammar_laws.proofs.SeparationLaws.{string_begins_no_gap}
use Rattle.ecma_laws.proofs.laws.strings.string_begins_no_gap.Goals as goal

pub returns : goal.returns
returns c = string_begins_no_gap
