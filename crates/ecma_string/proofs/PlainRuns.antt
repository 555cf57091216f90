-- The run of characters that a string holds as they are, by its bytes: none of the bytes that end it is part of another
-- character.
use Rattle.std.proofs.Common.{◌≡◌, ℕ, ◌+◌, ◌≤◌, ◌<◌, ◌/◌, Bool, true, false, cond, List, [], ◌∷◌, ◌++◌, length, refl, sym, ap, ◌∙◌, arith, encode_utf8, encode_utf8_all, inl, inr, ◌⊎◌, nat_lt}
use Rattle.std.specs.List.{prefix_len, list_all}
use Rattle.std.specs.Char.{len_utf8}
use Rattle.std.proofs.lemmas.Bool.{and_parts}
use Rattle.std.proofs.lemmas.Bool.Decides.{nat_tests}
use Rattle.std.proofs.lemmas.Str.{length-encode, encode_ascii}
use lib.Utf8.{next}
use Rattle.ecma_place.specs.Text.{Text, count_within}
use Rattle.ecma_place.specs.Cursor.{Cursor, rest, passed}
use Rattle.ecma_place.specs.Run.{is_in_class}
use Rattle.ecma_place.specs.declared.run.Quote.{Quote}
use Rattle.ecma_place.specs.declared.run.Quote.TheVariants.{Single, Double}
use Rattle.ecma_place.specs.declared.run.ByteClass.TheVariants.{Plain}
use Rattle.ecma_place.proofs.CursorLemmas.{count_within-none, count_within-more}
use Rattle.ecma_place.proofs.RunLemmas.{runs, text-passed, further-HasPlace}
use Rattle.ecma_place.proofs.MoveLemmas.{place-passed-le}

-- every byte past ASCII passes
abbrev High : (ℕ → Bool) → Type 0
High p = (b : ℕ) → 128 ≤ b → p b ≡ true

all-high : (p : ℕ → Bool) (c : ℕ) → High p → 128 ≤ c → list_all p (encode_utf8 c) ≡ true
unfolding lib.Utf8.encode
all-high p c high l = go (nat_lt c 128) (nat_lt c 2048) (nat_lt c 65536) refl
  where
    go : (x y z : Bool) → nat_lt c 128 ≡ x
        → list_all p (cond x (c ∷ []) (cond y ((192 + c / 64) ∷ next c ∷ []) (cond z ((224 + c / 4096) ∷ next (c / 64) ∷ next c ∷ []) ((240 + c / 262144) ∷ next (c / 4096) ∷ next (c / 64) ∷ next c ∷ [])))) ≡ true
    go true y z e = absurd (grind (arith, nat_tests))
    go false true z e = rw (high (192 + c / 64) (omega arith), high (next c) (omega arith)) refl
    go false false true e = rw (high (224 + c / 4096) (omega arith), high (next (c / 64)) (omega arith), high (next c) (omega arith)) refl
    go false false false e = rw (high (240 + c / 262144) (omega arith), high (next (c / 4096)) (omega arith), high (next (c / 64)) (omega arith), high (next c) (omega arith)) refl

run-all : (p : ℕ → Bool) (xs ys : List ℕ) → list_all p xs ≡ true → prefix_len p (xs ++ ys) ≡ length xs + prefix_len p ys
run-all p [] ys all = omega arith
run-all p (x ∷ xs) ys all =
    let (here, more) = and_parts (p x) (list_all p xs) all in
    let ih = run-all p xs ys more in
    rw here (omega (arith, ih))

low-or-high : (c : ℕ) → (c < 128) ⊎ (128 ≤ c)
low-or-high c = grind arith

-- as many whole characters stand within the run of bytes as the run of characters has
pub run-within : (p : ℕ → Bool) (cs : Text) → High p → count_within (prefix_len p (encode_utf8_all cs)) cs ≡ prefix_len p cs
run-within p [] high = refl
run-within p (c ∷ cs) high = go (p c) refl (run-within p cs high)
  where
    pass : p c ≡ true → (c < 128) ⊎ (128 ≤ c) → list_all p (encode_utf8 c) ≡ true
    pass e (inl low) = rw (encode_ascii c low, e) refl
    pass e (inr l) = all-high p c high l

    low : p c ≡ false → (c < 128) ⊎ (128 ≤ c) → c < 128
    low e (inl l) = l
    low e (inr l) = absurd (let t : true ≡ false = sym (high c l) ∙ e in cc)

    go : (b : Bool) → p c ≡ b → count_within (prefix_len p (encode_utf8_all cs)) cs ≡ prefix_len p cs → count_within (prefix_len p (encode_utf8_all (c ∷ cs))) (c ∷ cs) ≡ prefix_len p (c ∷ cs)
    go true e more =
        let n : ℕ = prefix_len p (encode_utf8_all cs) in
        let bytes : prefix_len p (encode_utf8_all (c ∷ cs)) ≡ len_utf8 c + n =
        run-all p (encode_utf8 c) (encode_utf8_all cs) (pass e (low-or-high c)) ∙ ap (λ (m : ℕ). m + n) (length-encode c) in
        ap (λ (m : ℕ). count_within m (c ∷ cs)) bytes ∙ count_within-more c n cs ∙ ap (λ (m : ℕ). 1 + m) more ∙ (rw e refl)
    go false e more =
        let bytes : prefix_len p (encode_utf8_all (c ∷ cs)) ≡ 0 = rw (encode_ascii c (low e (low-or-high c)), e) refl in
        ap (λ (m : ℕ). count_within m (c ∷ cs)) bytes ∙ count_within-none c cs ∙ (rw e refl)

plain-high : (quote : Quote) → High (is_in_class (Plain quote))
plain-high Single b l = grind (arith, nat_tests)
plain-high Double b l = grind (arith, nat_tests)

pub plain-run : (quote : Quote) (old now : Cursor) (n : ℕ) → n ≡ prefix_len (is_in_class (Plain quote)) (encode_utf8_all (rest old)) → now ≡ passed (count_within n (rest old)) old
    → now ≡ passed (prefix_len (is_in_class (Plain quote)) (rest old)) old
plain-run quote old now n e moved =
    moved ∙ ap (λ m. passed (count_within m (rest old)) old) e ∙ ap (λ m. passed m old) (run-within (is_in_class (Plain quote)) (rest old) (plain-high quote))

pub ruleset plain_runs = (runs, plain-run, place-passed-le)
