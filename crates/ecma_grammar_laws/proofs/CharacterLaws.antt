-- No character of white space begins or goes on with a word.
use Rattle.std.proofs.Common.{◌≡◌, ℕ, Bool, true, false, not, ◌||◌, ◌==◌, List, [], ◌∷◌, refl, ap, ◌∙◌, eqb-true, arith}
use Rattle.std.specs.List.{list_all}
use Rattle.std.proofs.lemmas.Bool.{and_parts, not-true}
use Rattle.std.proofs.lemmas.Bool.Decides.{nat_tests}
use Rattle.unicode.proofs.IdentComputing.{unicode_ident}
use Rattle.ecma_place.specs.Character.{is_ident_part, is_white_space, is_line_terminator}

-- all of it
abbrev white : List ℕ
white =
    9 ∷ 10 ∷ 11 ∷ 12 ∷ 13 ∷ 32 ∷ 133 ∷ 160 ∷ 5760 ∷ 8192 ∷ 8193 ∷ 8194 ∷ 8195 ∷ 8196 ∷ 8197 ∷ 8198 ∷ 8199 ∷ 8200 ∷ 8201 ∷ 8202 ∷ 8232 ∷ 8233 ∷ 8239 ∷ 8287 ∷ 12288 ∷ 0xFEFF ∷ []

abbrev is_one_of : List ℕ → ℕ → Bool
is_one_of [] c = false
is_one_of (x ∷ xs) c = c == x || is_one_of xs c

is_listed : (c : ℕ) → is_white_space c ≡ true → is_one_of white c ≡ true
unfolding is_white_space is_line_terminator
is_listed c h = grind (arith, nat_tests, h)

-- what all of the list pass, each of it passes
listed_passes : (p : ℕ → Bool) (xs : List ℕ) (c : ℕ) → list_all p xs ≡ true → is_one_of xs c ≡ true → p c ≡ true
listed_passes p [] c all h = cc
listed_passes p (x ∷ xs) c all h = go (c == x) refl h (and_parts (p x) (list_all p xs) all) (listed_passes p xs c)
  where
    go : (b : Bool) → (c == x) ≡ b → (b || is_one_of xs c) ≡ true → (p x ≡ true) × (list_all p xs ≡ true)
        → (list_all p xs ≡ true → is_one_of xs c ≡ true → p c ≡ true) → p c ≡ true
    go true e h all more = ap p (eqb-true c x e) ∙ all.0
    go false e h all more = more all.1 h

no_part : list_all (λ c. not (is_ident_part c)) white ≡ true
unfolding is_ident_part unicode_ident
no_part = refl

pub white-no_part : (c : ℕ) → is_white_space c ≡ true → is_ident_part c ≡ false
white-no_part c h = not-true (is_ident_part c) (listed_passes (λ x. not (is_ident_part x)) white c no_part (is_listed c h))
