-- Conflict markers, by the texts that their reader looks for.
use Rattle.std.proofs.Common.{◌≡◌, ℕ, Bool, true, false, ◌&&◌, ◌==◌, [], ◌∷◌, ◌++◌, drop, length, refl, sym, ◌∙◌, nat_eq, codes}
use Rattle.std.specs.List.{starts_with}
use Rattle.std.specs.Str.{chars}
use Rattle.ecma_place.specs.Text.{Text}
use Rattle.ecma_grammar.specs.Fronts.{begins_with, next_is}
use Rattle.ecma_grammar.specs.Gaps.{is_marker}
use Rattle.ecma_grammar.proofs.SignLemmas.{starts-begins}

and-true : (b : Bool) → (b && true) ≡ b
and-true true = refl
and-true false = refl

and-false : (b : Bool) → (b && false) ≡ false
and-false true = refl
and-false false = refl

-- a spelling and a space, as a spelling before a space
before-space : (needle text : Text) → begins_with (needle ++ (32 ∷ [])) text ≡ (begins_with needle text && next_is 32 (drop (length needle) text))
before-space [] [] = refl
before-space [] (c ∷ cs) = and-true (c == 32)
before-space (x ∷ xs) [] = refl
before-space (x ∷ xs) (c ∷ cs) = go (c == x) (before-space xs cs)
  where
    go : (b : Bool) → begins_with (xs ++ (32 ∷ [])) cs ≡ (begins_with xs cs && next_is 32 (drop (length xs) cs)) → (b && begins_with (xs ++ (32 ∷ [])) cs) ≡ ((b && begins_with xs cs) && next_is 32 (drop (length xs) cs))
    go true e = e
    go false e = refl

pub equals-marker : (type_mode : Bool) (text : Text) → starts_with nat_eq text (chars (codes "=======")) ≡ is_marker type_mode 61 text
unfolding chars
equals-marker type_mode text = starts-begins (codes "=======") text ∙ sym (and-true (begins_with (codes "=======") text))

pub less-marker : (text : Text) → starts_with nat_eq text (chars (codes "<<<<<<< ")) ≡ is_marker false 60 text
unfolding chars
less-marker text = starts-begins (codes "<<<<<<< ") text ∙ before-space (codes "<<<<<<<") text

pub greater-marker : (text : Text) → starts_with nat_eq text (chars (codes ">>>>>>> ")) ≡ is_marker false 62 text
unfolding chars
greater-marker text = starts-begins (codes ">>>>>>> ") text ∙ before-space (codes ">>>>>>>") text

pub no-less-marker : (text : Text) → false ≡ is_marker true 60 text
no-less-marker text = sym (and-false (begins_with (codes "<<<<<<<") text))

pub no-greater-marker : (text : Text) → false ≡ is_marker true 62 text
no-greater-marker text = sym (and-false (begins_with (codes ">>>>>>>") text))

pub no-marker : (type_mode : Bool) (c : ℕ) (text : Text) → (c == 61) ≡ false → (c == 60) ≡ false → (c == 62) ≡ false → false ≡ is_marker type_mode c text
no-marker type_mode c text a b d = rw (a, b, d) (sym (and-false _))

pub ruleset markers = (equals-marker, less-marker, greater-marker, no-less-marker, no-greater-marker, no-marker)
