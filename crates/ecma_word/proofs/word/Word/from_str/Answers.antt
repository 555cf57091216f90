use Rattle.ecma_word.proofs.Words.{word_of-kind}
use Rattle.ecma_word.proofs.word.Word.from_str.Goals as goal

pub returns : goal.returns
returns c = rw c.of_kind.ensures (rw c.kind_of.ensures (word_of-kind c.args.text.now))
