use Rattle.std.proofs.Common.{◌≡◌, ◌∙◌, ℕ, suc, ◌-◌, ◌<◌, List, [], ◌∷◌, length, get_or, refl, sym, ap, arith}
use Rattle.ecma_show.specs.Painted.{last_of}
use Rattle.ecma_show.proofs.paint.last_of.Goals as goal

last-at : (a : ℕ) (bs : List ℕ) (d : ℕ) → 0 < length bs → last_of a bs ≡ get_or bs (length bs - 1) d
last-at a [] d some = absurd (omega arith)
last-at a (b ∷ []) d some = refl
last-at a (b ∷ (c ∷ cs)) d some =
    let behind : suc (length (c ∷ cs) - 1) ≡ length (b ∷ (c ∷ cs)) - 1 = omega arith in
    last-at b (c ∷ cs) d (omega arith) ∙ ap (λ n. get_or (b ∷ (c ∷ cs)) n d) behind

pub returns-in-Some : goal.returns-in-Some
returns-in-Some c =
    let item = c.in-Some.ensures.item in
    item.1 ∙ sym (last-at c.args.before c.args.bytes.now c.in-Some.last.now item.3.0)
