-- What lies in a list of pieces, and what a filter and the order of place keep of it.
use Rattle.std.proofs.Common.{◌≡◌, ◌∙◌, ℕ, zero, suc, ◌+◌, ◌≤◌, Bool, true, false, ◌==◌, List, [], ◌∷◌, ◌++◌, inl, inr, ⊎_elim, refl, sym, subst, ap, arith}
use Rattle.std.specs.Prelude.{◌⊎◌}
use Rattle.std.specs.List.{All, Contains, filter, list_all}
use Rattle.std.proofs.lemmas.Bool.{and_from, and_parts, cases_Bool, cond-true, cond-false, eq-eqb, eqb-true}
use Rattle.std.proofs.lemmas.List.Elements.{All-contains}
use Rattle.ecma_classes.specs.Classes.{beginning_at, in_order_of_place}
use Rattle.ecma_classes.specs.declared.piece.Piece.{Piece}

abbrev pub IsIn : {X : Type 0} → X → List X → Type 0
IsIn x [] = ⊥
IsIn x (y ∷ ys) = (x ≡ y) ⊎ IsIn x ys

module _ {X : Type 0} where
  pub filter-kept : (p : X → Bool) (y : X) (ys : List X) → p y ≡ true → filter p (y ∷ ys) ≡ y ∷ filter p ys
  filter-kept p y ys passes = cond-true (p y) (y ∷ filter p ys) (filter p ys) passes

  pub filter-dropped : (p : X → Bool) (y : X) (ys : List X) → p y ≡ false → filter p (y ∷ ys) ≡ filter p ys
  filter-dropped p y ys fails = cond-false (p y) (y ∷ filter p ys) (filter p ys) fails

  pub in_filter : (p : X → Bool) (x : X) (ys : List X) → IsIn x ys → p x ≡ true → IsIn x (filter p ys)
  in_filter p x [] h passes = h
  in_filter p x (y ∷ ys) h passes = ⊎_elim
      (λ kept. subst (IsIn x) (sym (filter-kept p y ys kept)) (⊎_elim (λ e. inl e) (λ behind. inr (in_filter p x ys behind passes)) h))
      (λ dropped. subst (IsIn x) (sym (filter-dropped p y ys dropped)) (⊎_elim (λ e. absurd (let both : true ≡ false = sym passes ∙ ap p e ∙ dropped in cc)) (λ behind. in_filter p x ys behind passes) h))
      (cases_Bool (p y))

  pub of_filter : (p : X → Bool) (x : X) (ys : List X) → IsIn x (filter p ys) → IsIn x ys × (p x ≡ true)
  of_filter p x [] h = absurd h
  of_filter p x (y ∷ ys) h = ⊎_elim
      (λ kept. ⊎_elim
      (λ e. (inl e, ap p e ∙ kept))
      (λ behind. let rest = of_filter p x ys behind in (inr rest.0, rest.1))
      (subst (IsIn x) (filter-kept p y ys kept) h))
      (λ dropped. let rest = of_filter p x ys (subst (IsIn x) (filter-dropped p y ys dropped) h) in (inr rest.0, rest.1))
      (cases_Bool (p y))

  pub in_left : (x : X) (xs ys : List X) → IsIn x xs → IsIn x (xs ++ ys)
  in_left x [] ys h = absurd h
  in_left x (z ∷ xs) ys (inl e) = inl e
  in_left x (z ∷ xs) ys (inr h) = inr (in_left x xs ys h)

  pub in_right : (x : X) (xs ys : List X) → IsIn x ys → IsIn x (xs ++ ys)
  in_right x [] ys h = h
  in_right x (z ∷ xs) ys h = inr (in_right x xs ys h)

  pub in_either : (x : X) (xs ys : List X) → IsIn x (xs ++ ys) → IsIn x xs ⊎ IsIn x ys
  in_either x [] ys h = inr h
  in_either x (z ∷ xs) ys (inl e) = inl (inl e)
  in_either x (z ∷ xs) ys (inr h) = ⊎_elim (λ a. inl (inr a)) (λ b. inr b) (in_either x xs ys h)

  pub all_of : (p : X → Bool) (xs : List X) → ((x : X) → IsIn x xs → p x ≡ true) → list_all p xs ≡ true
  all_of p [] h = refl
  all_of p (x ∷ xs) h = and_from (p x) (list_all p xs) (h x (inl refl)) (all_of p xs (λ y i. h y (inr i)))

  pub at_all : (p : X → Bool) (x : X) (xs : List X) → list_all p xs ≡ true → IsIn x xs → p x ≡ true
  at_all p x [] h i = absurd i
  at_all p x (y ∷ ys) h (inl e) = ap p e ∙ (and_parts (p y) (list_all p ys) h).0
  at_all p x (y ∷ ys) h (inr i) = at_all p x ys (and_parts (p y) (list_all p ys) h).1 i

  pub in_at : (z : X) (ys : List X) → IsIn z ys → Contains ys z
  in_at z [] h = absurd h
  in_at z (y ∷ ys) (inl e) = (0, omega arith, sym e)
  in_at z (y ∷ ys) (inr h) = let behind = in_at z ys h in (suc behind.0, omega (arith, behind.1), behind.2)

  pub all_in : (P : X → Type 0) (xs : List X) → All P xs → (x : X) → IsIn x xs → P x
  all_in P xs all x h = All-contains P xs x all (in_at x xs h)

  swap-more : (p q : X → Bool) (x : X) (xs : List X) → filter p (filter q xs) ≡ filter q (filter p xs) → (a b : Bool) → p x ≡ a → q x ≡ b
      → filter p (filter q (x ∷ xs)) ≡ filter q (filter p (x ∷ xs))
  swap-more p q x xs rest true true f g =
      ap (filter p) (filter-kept q x xs g) ∙ filter-kept p x (filter q xs) f ∙ ap (λ l. x ∷ l) rest
      ∙ sym (ap (filter q) (filter-kept p x xs f) ∙ filter-kept q x (filter p xs) g)
  swap-more p q x xs rest true false f g = ap (filter p) (filter-dropped q x xs g) ∙ rest ∙ sym (ap (filter q) (filter-kept p x xs f) ∙ filter-dropped q x (filter p xs) g)
  swap-more p q x xs rest false true f g = ap (filter p) (filter-kept q x xs g) ∙ filter-dropped p x (filter q xs) f ∙ rest ∙ sym (ap (filter q) (filter-dropped p x xs f))
  swap-more p q x xs rest false false f g = ap (filter p) (filter-dropped q x xs g) ∙ rest ∙ sym (ap (filter q) (filter-dropped p x xs f))

  -- two filters in either order
  pub filter_swap : (p q : X → Bool) (xs : List X) → filter p (filter q xs) ≡ filter q (filter p xs)
  filter_swap p q [] = refl
  filter_swap p q (x ∷ xs) = swap-more p q x xs (filter_swap p q xs) (p x) (q x) refl refl

-- pieces in order of place are those that begin at one of the places
pub of_order : (p n : ℕ) (y : Piece) (ys : List Piece) → IsIn y (in_order_of_place p n ys) → IsIn y ys × (p ≤ y.span.lo.0)
of_order p zero y ys h = absurd h
of_order p (suc n) y ys h = ⊎_elim
    (λ here. let of = of_filter (λ q. q.span.lo.0 == p) y ys here in let at : y.span.lo.0 ≡ p = eqb-true y.span.lo.0 p of.1 in (of.0, omega arith))
    (λ behind. let of = of_order (p + 1) n y ys behind in let above : p + 1 ≤ y.span.lo.0 = of.1 in (of.0, omega arith))
    (in_either y (beginning_at p ys) (in_order_of_place (p + 1) n ys) h)

-- what lies in one of two lists with the same pieces at each place lies in the other
pub in_same : (xs ys : List Piece) → ((p : ℕ) → beginning_at p ys ≡ beginning_at p xs) → (y : Piece) → IsIn y ys → IsIn y xs
in_same xs ys same y h =
    let test : Piece → Bool = λ q. q.span.lo.0 == y.span.lo.0 in
    (of_filter test y xs (subst (IsIn y) (same y.span.lo.0) (in_filter test y ys h (eq-eqb y.span.lo.0 y.span.lo.0 refl)))).0
