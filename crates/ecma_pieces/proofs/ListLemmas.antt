-- What lies in a list that is mapped or turned round, and what is true of all that lies in it.
use Rattle.std.proofs.Common.{◌≡◌, ◌∙◌, Bool, true, List, [], ◌∷◌, inl, inr, refl, sym, ap, map}
use Rattle.std.specs.Prelude.{◌⊎◌}
use Rattle.std.specs.List.{All, list_any}
use mathlib.Core.List.{reverse_aux}
use Rattle.std.proofs.lemmas.Bool.{or_left, or_right}
use Rattle.std.proofs.lemmas.List.Elements.{All-cons, All-nil}
use Rattle.ecma_classes.proofs.MemberLemmas.{IsIn}

module _ {X Y : Type 0} where
  pub in_map : (f : X → Y) (x : X) (xs : List X) → IsIn x xs → IsIn (f x) (map f xs)
  in_map f x [] h = absurd h
  in_map f x (y ∷ ys) (inl e) = inl (ap f e)
  in_map f x (y ∷ ys) (inr h) = inr (in_map f x ys h)

  pub of_map : (f : X → Y) (y : Y) (xs : List X) → IsIn y (map f xs) → (x : X) × (IsIn x xs) × (y ≡ f x)
  of_map f y [] h = absurd h
  of_map f y (x ∷ xs) (inl e) = (x, inl refl, e)
  of_map f y (x ∷ xs) (inr h) = let found = of_map f y xs h in (found.0, inr found.1, found.2)

module _ {X : Type 0} where
  pub only : (z x : X) → IsIn z (x ∷ []) → z ≡ x
  only z x (inl e) = e
  only z x (inr h) = absurd h

  pub behind_onto : (x : X) (xs ys : List X) → IsIn x ys → IsIn x (reverse_aux xs ys)
  behind_onto x [] ys h = h
  behind_onto x (y ∷ xs) ys h = behind_onto x xs (y ∷ ys) (inr h)

  pub in_onto : (x : X) (xs ys : List X) → IsIn x xs → IsIn x (reverse_aux xs ys)
  in_onto x [] ys h = absurd h
  in_onto x (y ∷ xs) ys (inl e) = behind_onto x xs (y ∷ ys) (inl e)
  in_onto x (y ∷ xs) ys (inr h) = in_onto x xs (y ∷ ys) h

  moved_over : (x y : X) (xs ys : List X) → IsIn x xs ⊎ IsIn x (y ∷ ys) → IsIn x (y ∷ xs) ⊎ IsIn x ys
  moved_over x y xs ys (inl h) = inl (inr h)
  moved_over x y xs ys (inr (inl e)) = inl (inl e)
  moved_over x y xs ys (inr (inr h)) = inr h

  pub of_onto : (x : X) (xs ys : List X) → IsIn x (reverse_aux xs ys) → IsIn x xs ⊎ IsIn x ys
  of_onto x [] ys h = inr h
  of_onto x (y ∷ xs) ys h = moved_over x y xs ys (of_onto x xs (y ∷ ys) h)

  pub any_of : (p : X → Bool) (x : X) (xs : List X) → IsIn x xs → p x ≡ true → list_any p xs ≡ true
  any_of p x [] h passes = absurd h
  any_of p x (y ∷ ys) (inl e) passes = or_left (p y) (list_any p ys) (sym (ap p e) ∙ passes)
  any_of p x (y ∷ ys) (inr h) passes = or_right (p y) (list_any p ys) (any_of p x ys h passes)

  pub all_made : (P : X → Type 0) (xs : List X) → ((x : X) → IsIn x xs → P x) → All P xs
  all_made P [] each = All-nil P
  all_made P (x ∷ xs) each = All-cons P x xs (each x (inl refl)) (all_made P xs (λ y i. each y (inr i)))
