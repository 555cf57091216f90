use Rattle.std.proofs.Common.{◌<◌, length, arith, refl}
use Rattle.std.proofs.lemmas.Bool.Decides.{nat_tests}
use Rattle.ecma_word.proofs.ShortLemmas.{no-length}
use Rattle.ecma_word.proofs.short_words.kind_of.Goals as goal

pub returns-then-bytes-gt10 : goal.returns-then-bytes-gt10
returns-then-bytes-gt10 c =
    let long : 10 < length c.args.text.now = rw c.as_bytes-bytes.ensures.value at c.if-bytes-gt10.true in
    no-length c.args.text.now (length c.args.text.now) refl (λ k p q. grind (arith, nat_tests))
