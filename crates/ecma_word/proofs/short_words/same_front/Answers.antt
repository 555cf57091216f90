use Rattle.ecma_word.proofs.ShortLemmas.{same-fronts}
use Rattle.ecma_word.proofs.short_words.same_front.Goals as goal

pub returns : goal.returns
returns c = same-fronts c.args.length c.args.left.now c.args.right.now c.requires c.told-left c.told-right
