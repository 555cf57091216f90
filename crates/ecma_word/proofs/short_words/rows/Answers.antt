use Rattle.std.proofs.Common.{refl}
use Rattle.ecma_word.specs.KnownIdent.{known_of}
use Rattle.ecma_word.specs.Keyword.{keyword_of}
use Rattle.ecma_word.specs.ShortWords.{hash}
use Rattle.ecma_word.specs.Table.{table_of_words}
use Rattle.ecma_word.proofs.short_words.rows.Goals as goal

-- all computed
pub returns-clause-right : goal.returns-clause-right
unfolding keyword_of known_of
returns-clause-right c = refl

pub returns-clause-placed : goal.returns-clause-placed
unfolding table_of_words hash
returns-clause-placed c = refl

pub returns-clause-all : goal.returns-clause-all
returns-clause-all c = refl
