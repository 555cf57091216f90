-- The numbers that words write.
use Rattle.std.proofs.Common.{◌≡◌, ◌∙◌, ◌⊎◌, inl, inr, ℕ, ◌<◌, ◌≤◌, ◌^◌, Bool, true, false, ◌&&◌, List, [], ◌∷◌, Some, None, Result, Ok, Err, refl, sym, subst, ap, arith}
use Rattle.std.specs.Prelude.{◌==◌, cond, drop, slice_get, nat_le, nat_lt, if◌then◌else◌}
use Rattle.std.specs.Result.{OkIff, result_ok}
use Rattle.std.proofs.lemmas.Result.{Ok-from_Ok_iff}
use Rattle.std.specs.Str.Parse.{AllDigits, IsNumeral, ParsesUnsigned, digits_value}
use Rattle.std.proofs.lemmas.Str.{digit_value_digit}
use Rattle.std.proofs.lemmas.Str.Parse.{digit_from_value}
use Rattle.ecma_stdio.specs.Numbers.{are_digits, number_of}

both : (a b : Bool) → (a && b) ≡ true → (a ≡ true) × (b ≡ true)
both true true h = (refl, refl)
both true false h = cc
both false b h = cc

digits-are : (ds : List ℕ) → are_digits ds ≡ true → AllDigits 10 ds
digits-are [] h = tt
digits-are (c ∷ cs) h =
    let parts = both (nat_le 48 c && nat_le c 57) (are_digits cs) h in
    let range = both (nat_le 48 c) (nat_le c 57) parts.0 in
    let low : 48 ≤ c = grind (arith, range.0) in
    let high : c ≤ 57 = grind (arith, range.1) in
    let value = digit_value_digit c (low, high) in
    (omega (arith, value, high), digits-are cs parts.1)

are-digits : (ds : List ℕ) → AllDigits 10 ds → are_digits ds ≡ true
are-digits [] all = refl
are-digits (c ∷ cs) all =
    let range = digit_from_value c all.0 in
    let more = are-digits cs all.1 in
    grind (arith, range.0, range.1, more)

-- the text of a number without a leading zero is parsed as one
number-is : {E : Type 0} (c : ℕ) (cs : List ℕ) (r : Result ℕ E) → 49 ≤ c → c ≤ 57 → ParsesUnsigned 64 10 (c ∷ cs) r → result_ok r ≡ number_of (c ∷ cs)
number-is {E} c cs r low high parsed = go r (are_digits (c ∷ cs)) refl (nat_lt (digits_value 10 (c ∷ cs)) (2 ^ 64)) refl plain (digits-are (c ∷ cs)) (are-digits (c ∷ cs))
  where
    Is : Result ℕ E → Type 0
    Is r = OkIff r (IsNumeral 10 (c ∷ cs) × (digits_value 10 (c ∷ cs) < 2 ^ 64)) (digits_value 10 (c ∷ cs))

    plain : Is r
    plain =
        let no_plus : (c == 43) ≡ false = grind (arith, low) in
        subst (λ b. OkIff r (IsNumeral 10 (drop (cond b 1 0) (c ∷ cs)) × (digits_value 10 (drop (cond b 1 0) (c ∷ cs)) < 2 ^ 64)) (digits_value 10 (drop (cond b 1 0) (c ∷ cs)))) no_plus parsed

    from_one : nat_le 49 c ≡ true
    from_one = grind (arith, low)

    go : (r : Result ℕ E) → (d : Bool) → are_digits (c ∷ cs) ≡ d → (f : Bool) → nat_lt (digits_value 10 (c ∷ cs)) (2 ^ 64) ≡ f → Is r
        → (are_digits (c ∷ cs) ≡ true → AllDigits 10 (c ∷ cs)) → (AllDigits 10 (c ∷ cs) → are_digits (c ∷ cs) ≡ true) → result_ok r ≡ number_of (c ∷ cs)
    go r true digits true fits is to from =
        let value = Ok-from_Ok_iff r _ (digits_value 10 (c ∷ cs)) is ((omega arith, to digits), grind (arith, fits)) in
        rw (from_one, digits, fits) (ap result_ok value)
    go (Ok x) false digits f fits is to from = let all : false ≡ true = sym digits ∙ from is.0.0.1 in cc
    go (Err e) false digits f fits is to from = rw (from_one, digits) refl
    go (Ok x) true digits false fits is to from = let short = is.0.1 in absurd (grind (arith, fits, short))
    go (Err e) true digits false fits is to from = rw (from_one, digits, fits) refl

pub number_parsed : {E : Type 0} (bs : List ℕ) (first : ℕ) (r : Result ℕ E) → Some first ≡ slice_get bs 0 → 49 ≤ first → first ≤ 57 → ParsesUnsigned 64 10 bs r → result_ok r ≡ number_of bs
number_parsed [] first r is low high parsed = cc
number_parsed (c ∷ cs) first r is low high parsed =
    let same : first ≡ c = cc in
    number-is c cs r (subst (λ n. 49 ≤ n) same low) (subst (λ n. n ≤ 57) same high) parsed

-- a text that begins otherwise is none
pub number_none : (bs : List ℕ) → ((first : ℕ) → slice_get bs 0 ≡ Some first → (first < 49) ⊎ (57 < first)) → number_of bs ≡ None
number_none [] other = refl
number_none (c ∷ cs) other = go (other c refl)
  where
    go : (c < 49) ⊎ (57 < c) → number_of (c ∷ cs) ≡ None
    go (inl low) = let under : nat_le 49 c ≡ false = grind (arith, low) in rw under refl
    go (inr high) = no_digit (nat_le 49 c) (nat_le 48 c) (grind (arith, high))
      where
        no_digit : (a b : Bool) → nat_le c 57 ≡ false
            → (if (a && ((b && nat_le c 57) && are_digits cs)) && nat_lt (digits_value 10 (c ∷ cs)) (2 ^ 64) then Some (digits_value 10 (c ∷ cs)) else None) ≡ None
        no_digit true true beyond = rw beyond refl
        no_digit true false beyond = refl
        no_digit false b beyond = refl
