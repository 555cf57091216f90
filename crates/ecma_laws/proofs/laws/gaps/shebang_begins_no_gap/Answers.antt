use Rattle.ecma_grammar_laws.proofs.SeparationLaws.{shebang_begins_no_gap}
use Rattle.ecma_laws.proofs.laws.gaps.shebang_begins_no_gap.Goals as goal

pub returns : goal.returns
returns c = shebang_begins_no_gap
