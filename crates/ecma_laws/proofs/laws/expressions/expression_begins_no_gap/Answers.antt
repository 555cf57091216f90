use Rattle.ecma_grammar_laws.proofs.SeparationLaws.{expression_begins_no_gap}
use Rattle.ecma_laws.proofs.laws.expressions.expression_begins_no_gap.Goals as goal

pub returns : goal.returns
returns c = expression_begins_no_gap
