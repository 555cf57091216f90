-- Bytes that are added in runs, between those that something else stands for.
use Rattle.std.proofs.Common.{◌≡◌, ◌∙◌, ℕ, ◌+◌, ◌-◌, ◌<◌, ◌≤◌, List, [], ◌∷◌, ◌++◌, append_assoc, append-nil, length, length-drop, drop, take, sym, ap, arith}
use Rattle.std.specs.Prelude.{get_or, slice_range}
use Rattle.std.proofs.lemmas.List.{at_drop_more, get_or-drop, take_more}
use Rattle.ecma_show.specs.Painted.{each_behind}

-- the bytes between two places, and one more
range-more : (bs : List ℕ) (done i : ℕ) → done ≤ i → i < length bs → slice_range bs done (i + 1) ≡ slice_range bs done i ++ get_or bs i 0 ∷ []
range-more bs done i le lt =
    let short : i - done < length (drop done bs) = omega (arith, length-drop done bs) in
    let count : i + 1 - done ≡ (i - done) + 1 = omega arith in
    let place : done + (i - done) ≡ i = omega arith in
    ap (λ n. take n (drop done bs)) count
    ∙ take_more (drop done bs) (i - done) 0 short
    ∙ ap (λ b. slice_range bs done i ++ b ∷ []) (get_or-drop done bs (i - done) 0 ∙ ap (λ n. get_or bs n 0) place)

-- a byte that stands for itself is passed
pub passed-on : (f : ℕ → ℕ → List ℕ) (a : ℕ) (bs out all : List ℕ) (done i : ℕ) → done ≤ i → i < length bs → f a (get_or bs i 0) ≡ get_or bs i 0 ∷ []
    → (out ++ slice_range bs done i) ++ each_behind f a (drop i bs) ≡ all
    → (out ++ slice_range bs done (i + 1)) ++ each_behind f (get_or bs i 0) (drop (i + 1) bs) ≡ all
passed-on f a bs out all done i le lt same so_far =
    let rest = each_behind f (get_or bs i 0) (drop (i + 1) bs) in
    ap (λ run. (out ++ run) ++ rest) (range-more bs done i le lt)
    ∙ ap (λ front. front ++ rest) (sym (append_assoc out (slice_range bs done i) (get_or bs i 0 ∷ [])))
    ∙ append_assoc (out ++ slice_range bs done i) (get_or bs i 0 ∷ []) rest
    ∙ ap (λ own. (out ++ slice_range bs done i) ++ (own ++ rest)) (sym same)
    ∙ ap (λ more. (out ++ slice_range bs done i) ++ more) (sym (at_drop_more (each_behind f a) bs i 0 lt))
    ∙ so_far

-- the run before a byte is added, and what stands for the byte
pub run-added : (f : ℕ → ℕ → List ℕ) (a : ℕ) (bs out run all : List ℕ) (done i : ℕ) → i < length bs
    → run ≡ out ++ slice_range bs done i
    → (out ++ slice_range bs done i) ++ each_behind f a (drop i bs) ≡ all
    → ((run ++ f a (get_or bs i 0)) ++ slice_range bs (i + 1) (i + 1)) ++ each_behind f (get_or bs i 0) (drop (i + 1) bs) ≡ all
run-added f a bs out run all done i lt added so_far =
    let rest = each_behind f (get_or bs i 0) (drop (i + 1) bs) in
    let zero : (i + 1) - (i + 1) ≡ 0 = omega arith in
    let none : slice_range bs (i + 1) (i + 1) ≡ [] = ap (λ n. take n (drop (i + 1) bs)) zero in
    ap (λ l. ((run ++ f a (get_or bs i 0)) ++ l) ++ rest) none
    ∙ ap (λ l. l ++ rest) (append-nil (run ++ f a (get_or bs i 0)))
    ∙ append_assoc run (f a (get_or bs i 0)) rest
    ∙ ap (λ more. run ++ more) (sym (at_drop_more (each_behind f a) bs i 0 lt))
    ∙ ap (λ front. front ++ each_behind f a (drop i bs)) added
    ∙ so_far
