use Rattle.std.specs.Prelude.{nat_eq}
use Rattle.std.specs.Cmp.Lexicographic.{pointwise, same_text}
use Rattle.std.proofs.Common.{ℕ, ◌≡◌, ◌∙◌, true, false, List, [], ◌∷◌, refl, sym, ap, take}
use Rattle.std.proofs.lemmas.Bool.{eq-eqb}
use Rattle.ecma_stored.specs.Stored.{checkpoint_in, stored}
use Rattle.ecma_stored.proofs.StoredLemmas.{stored_back}
use Rattle.ecma_stored.proofs.from_bytes.decode.Goals as goal

pub returns-then-eq-clause-some : goal.returns-then-eq-clause-some
returns-then-eq-clause-some c =
    sym (c.as_slice.ensures.value ∙ c.in_ok-again.ensures.bytes)
    ∙ same_text c.as_slice.result.now c.args.bytes.now c.if-eq.ensures

-- a text is the same as itself
itself : (xs : List ℕ) → pointwise nat_eq xs xs ≡ true
itself [] = refl
itself (x ∷ xs) = rw (eq-eqb x x refl) (itself xs)

pub returns-else-eq-clause-none : goal.returns-else-eq-clause-none
returns-else-eq-clause-none c none d is same =
    let bytes = c.args.bytes.now in
    let cut = c.in-Some.ensures.cases in
    let made : c.in_ok-from.from ≡ d =
    c.in_ok-from.ensures ∙ ap (λ h. checkpoint_in h c.in-Some.inner.now) cut.0 ∙ ap (checkpoint_in (take 90 bytes)) cut.1 ∙ stored_back d bytes is same in
    let again : c.as_slice.result.now ≡ bytes = c.as_slice.ensures.value ∙ c.in_ok-again.ensures.bytes ∙ ap stored made ∙ same in
    let yes : c.eq.result ≡ true = c.eq.ensures ∙ ap (λ xs. pointwise nat_eq xs bytes) again ∙ itself bytes in
    let no : c.eq.result ≡ false = c.if-eq.false in
    cc
