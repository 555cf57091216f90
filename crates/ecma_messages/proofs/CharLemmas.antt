-- The characters that a loop went over.
use Rattle.std.proofs.Common.{◌≡◌, ℕ, List, [], ◌∷◌, refl, ap}
use Rattle.std.specs.Prelude.{map}

pub each-as-it-is : (cs : List ℕ) → map (λ c. c) cs ≡ cs
each-as-it-is [] = refl
each-as-it-is (c ∷ cs) = ap (λ more. c ∷ more) (each-as-it-is cs)
