use Rattle.ecma_grammar_laws.proofs.SeparationLaws.{word_begins_no_gap}
use Rattle.ecma_laws.proofs.laws.words.word_begins_no_gap.Goals as goal

pub returns : goal.returns
returns c = word_begins_no_gap
