use Rattle.ecma_roles.proofs.FastWordLemmas.{keyword_is_word, word_takes}
use Rattle.ecma_roles.proofs.fast_word.take_keyword.Goals as goal

pub returns-in-Property-clause-takes : goal.returns-in-Property-clause-takes
returns-in-Property-clause-takes c = rw c.in-Property.is (word_takes _ c.args.nest.now.nest c.args.had_line_break (keyword_is_word c.args.keyword))
