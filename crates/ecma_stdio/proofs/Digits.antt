-- Two numbers between spaces.
use Rattle.std.proofs.Common.{◌≡◌, ◌∙◌, ℕ, ◌+◌, ◌-◌, ◌<◌, ◌≤◌, ◌^◌, List, [], ◌∷◌, ◌++◌, length, take, drop, get_or, replicate, refl, sym, ap, arith}
use Rattle.std.specs.Fmt.{decimal}
use Rattle.std.proofs.lemmas.Fmt.{length-decimal-le}
use Rattle.std.proofs.lemmas.List.{drop_more, get_or-replicate, get_or-take, take_rest}

pub digits-fit : (n : ℕ) → n < 2 ^ 32 → length (decimal n) ≤ 10
digits-fit n small = length-decimal-le 10 n (omega arith) (omega arith) (omega arith)

-- what stands from `start` on, where `second` was written before the last of the spaces, and `first` before the one before it
pub pair-written : (first second behind start : ℕ) (one two : List ℕ) → second < 2 ^ 32 → behind + length (decimal second) ≡ 21 → length one ≡ 22
    → drop behind one ≡ decimal second ++ drop 21 (replicate 22 32) → take behind one ≡ take behind (replicate 22 32)
    → drop start two ≡ decimal first ++ drop (behind - 1) one
    → take (length two - start) (drop start two) ≡ decimal first ++ (32 ∷ (decimal second ++ 32 ∷ []))
pair-written first second behind start one two small placed long written before at =
    let fit = digits-fit second small in
    let same : behind - 1 + 1 ≡ behind = omega arith in
    let space : get_or one (behind - 1) 0 ≡ 32 =
    sym (get_or-take behind one (behind - 1) 0 (omega arith))
    ∙ ap (λ bytes. get_or bytes (behind - 1) 0) before
    ∙ get_or-take behind (replicate 22 32) (behind - 1) 0 (omega arith)
    ∙ get_or-replicate 22 (behind - 1) 32 0 (omega arith) in
    let between : drop (behind - 1) one ≡ 32 ∷ drop behind one = drop_more one (behind - 1) 0 (omega arith) ∙ rw (space, same) refl in
    take_rest two start ∙ at ∙ ap (λ bytes. decimal first ++ bytes) (between ∙ ap (λ bytes. 32 ∷ bytes) written)
