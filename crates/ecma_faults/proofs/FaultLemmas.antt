-- What a stable sort by place gives.
use Rattle.std.proofs.Common.{◌≡◌, ◌∙◌, ℕ, ◌<◌, Bool, true, false, cond, ◌==◌, ◌&&◌, List, [], ◌∷◌, inl, inr, ◌⊎◌, ⊎_elim, refl, sym, ap, arith, length, map}
use Rattle.std.specs.Prelude.{not}
use Rattle.std.specs.List.{filter}
use Rattle.std.specs.List.Sorted.{IsNonDecreasingBy, IsStableByKey, ties}
use Rattle.std.specs.Ordering.{is_lt, nat_cmp}
use Rattle.std.proofs.lemmas.Bool.Decides.{nat_tests}
use Rattle.std.proofs.lemmas.List.{get_or-map, length-map}
use Rattle.std.proofs.lemmas.List.Elements.{filter_agree}

module _ {X V : Type 0} (view : X → V) (place : V → ℕ) where
  pub rising-seen : (ys : List X) → IsNonDecreasingBy (λ x. place (view x)) ys → IsNonDecreasingBy place (map view ys)
  rising-seen [] rises i j d le lt = absurd (omega arith)
  rising-seen (y ∷ ys) rises i j d le lt =
      let high : j < length (y ∷ ys) = omega (arith, lt, length-map (y ∷ ys) view) in
      let low : i < length (y ∷ ys) = omega arith in
      rw (get_or-map view (y ∷ ys) i y d low, get_or-map view (y ∷ ys) j y d high) (rises i j y le high)

  abbrev at : ℕ → X → Bool
  at p x = place (view x) == p

  filter-seen : (p : ℕ) (xs : List X) → filter (λ v. place v == p) (map view xs) ≡ map view (filter (at p) xs)
  filter-seen p [] = refl
  filter-seen p (x ∷ xs) = go (at p x) (filter-seen p xs)
    where
      go : (b : Bool) → filter (λ v. place v == p) (map view xs) ≡ map view (filter (at p) xs)
          → cond b (view x ∷ filter (λ v. place v == p) (map view xs)) (filter (λ v. place v == p) (map view xs)) ≡ map view (cond b (x ∷ filter (at p) xs) (filter (at p) xs))
      go true e = ap (λ l. view x ∷ l) e
      go false e = e

  -- an element at a place, or none is there
  some-or-none : (p : ℕ) (xs : List X) → ((x : X) × (at p x ≡ true)) ⊎ (filter (at p) xs ≡ [])
  some-or-none p [] = inr refl
  some-or-none p (x ∷ xs) = go (at p x) refl (some-or-none p xs)
    where
      go : (b : Bool) → at p x ≡ b → ((y : X) × (at p y ≡ true)) ⊎ (filter (at p) xs ≡ []) → ((y : X) × (at p y ≡ true)) ⊎ (cond b (x ∷ filter (at p) xs) (filter (at p) xs) ≡ [])
      go true e rest = inl (x, e)
      go false e rest = rest

  one-place : (a p b : ℕ) → (b == p) ≡ true → (a == p) ≡ (not (is_lt (nat_cmp b a)) && not (is_lt (nat_cmp a b)))
  one-place a p b here = grind (arith, nat_tests)

  -- those at the place of an element keep their order
  kept-at : (xs ys : List X) → IsStableByKey (λ x. place (view x)) nat_cmp xs ys → (p : ℕ) (x : X) → at p x ≡ true → filter (at p) ys ≡ filter (at p) xs
  kept-at xs ys stable p x here =
      let lt : X → X → Bool = λ q r. is_lt (nat_cmp (place (view q)) (place (view r))) in
      let agree : (q : X) → at p q ≡ ties lt x q = λ q. one-place (place (view q)) p (place (view x)) here in
      filter_agree (at p) (ties lt x) agree ys ∙ stable x ∙ sym (filter_agree (at p) (ties lt x) agree xs)

  pub same-seen : (xs ys : List X) → IsStableByKey (λ x. place (view x)) nat_cmp xs ys → (p : ℕ) → filter (λ v. place v == p) (map view ys) ≡ filter (λ v. place v == p) (map view xs)
  same-seen xs ys stable p =
      filter-seen p ys
      ∙ ap (map view)
      (⊎_elim (λ some. kept-at xs ys stable p some.0 some.1)
      (λ none. ⊎_elim (λ some. kept-at xs ys stable p some.0 some.1) (λ nor. none ∙ sym nor) (some-or-none p xs))
      (some-or-none p ys))
      ∙ sym (filter-seen p xs)
