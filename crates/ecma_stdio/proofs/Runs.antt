-- Bytes that are added in runs, between those that something else stands for.
use Rattle.std.proofs.Common.{◌≡◌, ◌∙◌, ℕ, ◌+◌, ◌-◌, ◌<◌, ◌≤◌, List, [], ◌∷◌, ◌++◌, append_assoc, append-nil, length, length-drop, drop, take, sym, ap, arith}
use Rattle.std.specs.Prelude.{flat_map, get_or, slice_range}
use Rattle.std.proofs.lemmas.List.{take_more, get_or-drop}
use Rattle.std.proofs.lemmas.Grind.{flat_map-append}

-- the bytes between two places, and one more
range-more : (bs : List ℕ) (done i : ℕ) → done ≤ i → i < length bs → slice_range bs done (i + 1) ≡ slice_range bs done i ++ get_or bs i 0 ∷ []
range-more bs done i le lt =
    let short : i - done < length (drop done bs) = omega (arith, length-drop done bs) in
    let count : i + 1 - done ≡ (i - done) + 1 = omega arith in
    let place : done + (i - done) ≡ i = omega arith in
    ap (λ n. take n (drop done bs)) count
    ∙ take_more (drop done bs) (i - done) 0 short
    ∙ ap (λ b. slice_range bs done i ++ b ∷ []) (get_or-drop done bs (i - done) 0 ∙ ap (λ n. get_or bs n 0) place)

mapped-more : (f : ℕ → List ℕ) (bs : List ℕ) (i : ℕ) → i < length bs → flat_map f (take (i + 1) bs) ≡ flat_map f (take i bs) ++ f (get_or bs i 0)
mapped-more f bs i lt =
    ap (flat_map f) (take_more bs i 0 lt)
    ∙ flat_map-append f (take i bs) (get_or bs i 0 ∷ [])
    ∙ ap (λ last. flat_map f (take i bs) ++ last) (append-nil (f (get_or bs i 0)))

-- a byte that stands for itself is passed
pub passed-on : (f : ℕ → List ℕ) (bs before now : List ℕ) (done i : ℕ) → done ≤ i → i < length bs → f (get_or bs i 0) ≡ get_or bs i 0 ∷ []
    → now ++ slice_range bs done i ≡ before ++ flat_map f (take i bs)
    → now ++ slice_range bs done (i + 1) ≡ before ++ flat_map f (take (i + 1) bs)
passed-on f bs before now done i le lt same so_far =
    ap (λ run. now ++ run) (range-more bs done i le lt)
    ∙ sym (append_assoc now (slice_range bs done i) (get_or bs i 0 ∷ []))
    ∙ ap (λ front. front ++ get_or bs i 0 ∷ []) so_far
    ∙ append_assoc before (flat_map f (take i bs)) (get_or bs i 0 ∷ [])
    ∙ ap (λ last. before ++ last) (ap (λ last. flat_map f (take i bs) ++ last) (sym same) ∙ sym (mapped-more f bs i lt))

-- the run before a byte is added, and what stands for the byte
pub run-added : (f : ℕ → List ℕ) (bs before now run_added : List ℕ) (done i : ℕ) → i < length bs
    → now ++ slice_range bs done i ≡ before ++ flat_map f (take i bs)
    → run_added ≡ now ++ slice_range bs done i
    → (run_added ++ f (get_or bs i 0)) ++ slice_range bs (i + 1) (i + 1) ≡ before ++ flat_map f (take (i + 1) bs)
run-added f bs before now run_added done i lt so_far added =
    let zero : (i + 1) - (i + 1) ≡ 0 = omega arith in
    let none : slice_range bs (i + 1) (i + 1) ≡ [] = ap (λ n. take n (drop (i + 1) bs)) zero in
    ap (λ run. (run_added ++ f (get_or bs i 0)) ++ run) none
    ∙ append-nil (run_added ++ f (get_or bs i 0))
    ∙ ap (λ front. front ++ f (get_or bs i 0)) (added ∙ so_far)
    ∙ append_assoc before (flat_map f (take i bs)) (f (get_or bs i 0))
    ∙ ap (λ last. before ++ last) (sym (mapped-more f bs i lt))
