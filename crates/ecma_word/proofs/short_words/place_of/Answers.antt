use Rattle.std.proofs.Common.{arith}
use Rattle.ecma_word.proofs.ShortLemmas.{hash-front}
use Rattle.ecma_word.proofs.short_words.place_of.Goals as goal

pub returns-clause-place : goal.returns-clause-place
returns-clause-place c = hash-front c.args.length c.args.text.now c.requires.0 (omega (arith, c.requires.1, c.told-text))
