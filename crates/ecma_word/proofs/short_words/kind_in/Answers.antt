use Rattle.std.proofs.Common.{◌≤◌, length, sym, ◌∙◌, arith}
use Rattle.std.proofs.lemmas.Bool.Decides.{nat_tests}
use Rattle.std.proofs.lemmas.List.{length-take-le}
use Rattle.ecma_word.proofs.ShortLemmas.{no-length, its-word, not-its-word, unequal, unlike}
use Rattle.ecma_word.proofs.short_words.kind_in.Goals as goal
use Rattle.ecma_word.proofs.short_words.kind_in.Goals.{then-length-lt2-via-then-length-lt2, then-length-lt2-via-else-length-lt2+then-length-gt10, else-row-length-via-then-row-length+else-same_front, else-row-length-via-else-row-length}

pub returns-then-length-lt2 : goal.returns-then-length-lt2
returns-then-length-lt2 c =
    let long = length-take-le c.args.length c.args.chunk.now (omega (arith, c.requires, c.told-chunk)) in
    elim c.then-length-lt2.branch [
      | then-length-lt2-via-then-length-lt2 h ↦ no-length _ c.args.length long (λ k p q. grind (arith, nat_tests))
      | then-length-lt2-via-else-length-lt2+then-length-gt10 h ↦ no-length _ c.args.length long (λ k p q. grind (arith, nat_tests))
    ]

pub returns-then-same_front : goal.returns-then-same_front
returns-then-same_front c =
    its-word _ c.args.chunk.now _ c.args.length c.rows.ensures.right (omega (arith, c.place_of.ensures.below, c.rows.ensures.all)) c.if-row-length.true (sym c.same_front.ensures ∙ c.if-same_front.true)

pub returns : goal.returns
returns c =
    let long : c.args.length ≤ length c.args.chunk.now = omega (arith, c.requires, c.told-chunk) in
    elim c.else-row-length.branch [
      | else-row-length-via-then-row-length+else-same_front h ↦ not-its-word _ c.args.chunk.now _ c.args.length c.rows.ensures.placed c.place_of.ensures.place long (unlike _ c.args.length _ (sym h.same_front.ensures ∙ h.if-same_front.false))
      | else-row-length-via-else-row-length h ↦ not-its-word _ c.args.chunk.now _ c.args.length c.rows.ensures.placed c.place_of.ensures.place long (unequal _ c.args.length _ h.if-row-length.false)
    ]
