use Rattle.std.proofs.Common.{◌≡◌, ◌∙◌, ◌+◌, Bool, true, false, Option, Some, None, ap, refl, sym, drop, map, string_bytes}
use Rattle.std.proofs.lemmas.List.{at_drop_more}
use Rattle.ecma_program.specs.Command.{Particulars, behind, with_word}
use Rattle.ecma_program.specs.Gathered.{Follows, Holds}
use Rattle.ecma_program.specs.declared.particulars.Particulars as gathered
use Rattle.ecma_program.proofs.particulars.Particulars.from_words.Goals as goal

-- a good word is taken in
taken : (wanted : Option Particulars) (good : Bool) (g : gathered.Particulars) → Follows wanted good g → good ≡ true → (p : Particulars) × (wanted ≡ Some p) × Holds p g
taken None good g follows is = let not_so : false ≡ true = sym follows ∙ is in cc
taken (Some p) good g follows is = (p, refl, follows.1)

-- a bad one is not
refused : (wanted : Option Particulars) (good : Bool) (g : gathered.Particulars) → Follows wanted good g → good ≡ false → wanted ≡ None
refused None good g follows is = refl
refused (Some p) good g follows is = let not_so : true ≡ false = sym follows.0 ∙ is in cc

pub loop-word-preserved : goal.loop-word-preserved
loop-word-preserved c =
    let (p, all, holds) = c.loop-word.invariant in
    let (q, same, now) = taken (with_word p c.as_str.result.now) c.take.result c.take.new.self (c.take.ensures p holds) c.if-not-take.false in
    let more = at_drop_more (λ words. behind (Some p) (map string_bytes words)) c.args.words.now c.loop-word.word-index c.word-item.result c.loop-word-test.true in
    let item = ap (λ word. behind (with_word p (string_bytes word)) (map string_bytes (drop (c.loop-word.word-index + 1) c.args.words.now))) (sym c.word-item.is) in
    let text = ap (λ word. behind (with_word p word) (map string_bytes (drop (c.loop-word.word-index + 1) c.args.words.now))) (sym c.as_str.ensures.value) in
    (q, all ∙ more ∙ item ∙ text ∙ ap (λ wanted. behind wanted (map string_bytes (drop (c.loop-word.word-index + 1) c.args.words.now))) same, now)

pub returns-then-not-take : goal.returns-then-not-take
returns-then-not-take c =
    let (p, all, holds) = c.loop-word.invariant in
    let none = refused (with_word p c.as_str.result.now) c.take.result c.take.new.self (c.take.ensures p holds) c.if-not-take.true in
    let left = drop (c.loop-word.word-index + 1) c.args.words.now in
    let more = at_drop_more (λ words. behind (Some p) (map string_bytes words)) c.args.words.now c.loop-word.word-index c.word-item.result c.loop-word-test.true in
    let item = ap (λ word. behind (with_word p (string_bytes word)) (map string_bytes left)) (sym c.word-item.is) in
    let text = ap (λ word. behind (with_word p word) (map string_bytes left)) (sym c.as_str.ensures.value) in
    all ∙ more ∙ item ∙ text ∙ ap (λ wanted. behind wanted (map string_bytes left)) none
