-- Lists that hold nothing.
use Rattle.std.proofs.Common.{◌≡◌, List, [], ◌∷◌, ◌++◌, map, refl}

pub append-none : {A : Type 0} → (xs ys : List A) → xs ++ ys ≡ [] → (xs ≡ []) × (ys ≡ [])
append-none [] ys h = (refl, h)
append-none (x ∷ xs) ys h = cc

pub map-none : {A B : Type 0} → (seen : A → B) (items : List A) → map seen items ≡ [] → items ≡ []
map-none seen [] h = refl
map-none seen (item ∷ items) h = cc
