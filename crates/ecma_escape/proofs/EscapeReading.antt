-- Runs of digits of an escape, as a loop goes over them, and their values.
use Rattle.std.proofs.Common.{◌≡◌, ℕ, ◌+◌, ◌-◌, ◌<◌, ◌≤◌, Bool, true, false, cond, [], ◌∷◌, ◌++◌, length, take, drop, drop-drop, refl, sym, ap, ◌∙◌, arith, zero, suc, encode_utf8_all, ◌==◌, ◌^◌, eqb-true}
use Rattle.std.specs.List.{prefix_len}
use Rattle.std.specs.Char.{digit_value}
use Rattle.std.specs.Prelude.{slice_range}
use Rattle.std.specs.Str.Parse.{AllDigits, IsNumeral, without_leading_plus, digits_value}
use Rattle.std.proofs.lemmas.Str.{encode_ascii}
use Rattle.std.proofs.lemmas.Bool.Decides.{nat_tests}
use Rattle.ecma_place.specs.Text.{Text}
use Rattle.ecma_place.specs.Cursor.{Cursor, rest, place, passed, moved_to, index_of}
use Rattle.ecma_place.proofs.RunLemmas.{passed-later-by, runs, text-passed, further-start, further-step, further-place-le, further-HasPlace}
use Rattle.ecma_grammar.specs.Fronts.{front, next_passes}
use Rattle.ecma_grammar.specs.Escapes.{is_hex_digit, hex_front}
use Rattle.ecma_escape.specs.EscapeMeanings.{is_digit_in, digit_front}
use Rattle.ecma_grammar.proofs.Fronts.{front-is, length-take_while}

-- the digits from `now` on, at most `left` of them, end where those from `old` on do
pub record IsOnDigits (radix : ℕ) (most left : ℕ) (old now : Cursor) : Type 0 where
  pub same_end : passed (length (digit_front radix left (rest now))) now ≡ passed (length (digit_front radix most (rest old))) old
  pub further : old.at ≤ now.at

passed-none : (c : Cursor) (n : ℕ) → n ≡ 0 → passed n c ≡ c
passed-none c n z = ap (λ k. moved_to k c) (let same : c.at + n ≡ c.at = omega arith in same)

digits-one : (radix n : ℕ) (text : Text) → 0 < n → next_passes (is_digit_in radix) text ≡ true
    → length (digit_front radix n text) ≡ 1 + length (digit_front radix (n - 1) (drop 1 text))
digits-one radix n [] some e = cc
digits-one radix zero (c ∷ cs) some e = absurd (omega arith)
digits-one radix (suc n) (c ∷ cs) some e =
    let less : suc n - 1 ≡ n = omega arith in
    rw (e, less) (omega arith)

digits-stop : (radix n : ℕ) (text : Text) → next_passes (is_digit_in radix) text ≡ false → length (digit_front radix n text) ≡ 0
digits-stop radix zero text e = refl
digits-stop radix (suc n) [] e = refl
digits-stop radix (suc n) (c ∷ cs) e = rw e refl

pub digits-start : (radix most : ℕ) (c : Cursor) → IsOnDigits radix most most c c
digits-start radix most c = record { same_end = refl; further = omega arith }

pub digits-step : (radix most left less : ℕ) (old now next : Cursor) → IsOnDigits radix most left old now → 0 < left → next_passes (is_digit_in radix) (rest now) ≡ true
    → next ≡ passed 1 now → less ≡ left - 1 → IsOnDigits radix most less old next
digits-step radix most left less old now next r some e moved l =
    let behind : rest (passed 1 now) ≡ drop 1 (rest now) = sym (drop-drop 1 now.at now.text) in
    let count : length (digit_front radix left (rest now)) ≡ 1 + length (digit_front radix less (rest (passed 1 now))) =
    rw (behind, l) (digits-one radix left (rest now) some e) in
    rw moved record {
      same_end = sym (passed-later-by now _ _ 1 count) ∙ r.same_end;
      further = omega (arith, r.further);
    }

pub digits-end : (radix most left : ℕ) (old now : Cursor) → IsOnDigits radix most left old now → next_passes (is_digit_in radix) (rest now) ≡ false
    → now ≡ passed (length (digit_front radix most (rest old))) old
digits-end radix most left old now r e = sym (passed-none now _ (digits-stop radix left (rest now) e)) ∙ r.same_end

pub digits-full : (radix most left : ℕ) (old now : Cursor) → IsOnDigits radix most left old now → left ≡ 0
    → now ≡ passed (length (digit_front radix most (rest old))) old
digits-full radix most left old now r e =
    let none : length (digit_front radix left (rest now)) ≡ 0 = rw e refl in
    sym (passed-none now _ none) ∙ r.same_end

pub next-some : (p : ℕ → Bool) (text : Text) → next_passes p text ≡ true → 0 < length text
next-some p [] e = cc
next-some p (c ∷ cs) e = omega arith

-- The bytes of digits are their characters

pub digit_ascii : (radix c : ℕ) → radix ≤ 36 → is_digit_in radix c ≡ true → c < 128
digit_ascii radix c l h = grind (arith, nat_tests)

pub front-bytes : (radix : ℕ) (text : Text) (n : ℕ) → radix ≤ 36 → encode_utf8_all (digit_front radix n text) ≡ digit_front radix n text
front-bytes radix text zero l = refl
front-bytes radix [] (suc n) l = refl
front-bytes radix (c ∷ cs) (suc n) l = go (is_digit_in radix c) refl (front-bytes radix cs n l)
  where
    go : (b : Bool) → is_digit_in radix c ≡ b → encode_utf8_all (digit_front radix n cs) ≡ digit_front radix n cs
        → encode_utf8_all (take (suc n) (cond b (c ∷ front (is_digit_in radix) cs) [])) ≡ take (suc n) (cond b (c ∷ front (is_digit_in radix) cs) [])
    go true e more = ap (λ bytes. bytes ++ encode_utf8_all (digit_front radix n cs)) (encode_ascii c (digit_ascii radix c l e)) ∙ ap (λ bytes. c ∷ bytes) more
    go false e more = refl

digits-taken : (radix n : ℕ) (text : Text) → take (length (digit_front radix n text)) text ≡ digit_front radix n text
digits-taken radix zero text = refl
digits-taken radix (suc n) [] = refl
digits-taken radix (suc n) (c ∷ cs) = go (is_digit_in radix c) refl (digits-taken radix n cs)
  where
    go : (b : Bool) → is_digit_in radix c ≡ b → take (length (digit_front radix n cs)) cs ≡ digit_front radix n cs
        → take (length (take (suc n) (cond b (c ∷ front (is_digit_in radix) cs) []))) (c ∷ cs) ≡ take (suc n) (cond b (c ∷ front (is_digit_in radix) cs) [])
    go true e more = ap (λ l. c ∷ l) more
    go false e more = refl

pub digits-text : (radix most : ℕ) (old now : Cursor) (from to : ℕ) → radix ≤ 36 → now ≡ passed (length (digit_front radix most (rest old))) old → from ≡ place old → to ≡ place now
    → encode_utf8_all (slice_range now.text (index_of now from) (index_of now to)) ≡ digit_front radix most (rest old)
digits-text radix most old now from to l moved f t =
    text-passed old now _ from to moved f t ∙ ap encode_utf8_all (digits-taken radix most (rest old)) ∙ front-bytes radix (rest old) most l

pub ruleset digit_fronts = (further-start, further-step, further-place-le, digits-start, digits-step, digits-end, digits-full, next-some, digits-text)

-- A run of hexadecimal digits

pub hex-bytes : (text : Text) → encode_utf8_all (hex_front text) ≡ hex_front text
hex-bytes [] = refl
hex-bytes (c ∷ cs) = go (is_hex_digit c) refl (hex-bytes cs)
  where
    go : (b : Bool) → is_hex_digit c ≡ b → encode_utf8_all (hex_front cs) ≡ hex_front cs
        → encode_utf8_all (cond b (c ∷ hex_front cs) []) ≡ cond b (c ∷ hex_front cs) []
    go true e more = ap (λ bytes. bytes ++ encode_utf8_all (hex_front cs)) (encode_ascii c (digit_ascii 16 c (omega arith) e)) ∙ ap (λ bytes. c ∷ bytes) more
    go false e more = refl

pub hex-moved : (old now : Cursor) → now ≡ passed (prefix_len is_hex_digit (rest old)) old → now ≡ passed (length (hex_front (rest old))) old
hex-moved old now moved =
    moved ∙ ap (λ n. passed n old) (sym (ap length (front-is is_hex_digit (rest old)) ∙ length-take_while is_hex_digit (rest old)))

pub hex-text : (old now : Cursor) (from to : ℕ) → now ≡ passed (prefix_len is_hex_digit (rest old)) old → from ≡ place old → to ≡ place now
    → encode_utf8_all (slice_range now.text (index_of now from) (index_of now to)) ≡ hex_front (rest old)
hex-text old now from to moved f t =
    text-passed old now _ from to moved f t ∙ ap encode_utf8_all (sym (front-is is_hex_digit (rest old))) ∙ hex-bytes (rest old)

pub ruleset hex_runs = (runs, hex-moved, hex-text)

-- What is parsed of digits

pub front-digits : (radix n : ℕ) (text : Text) → AllDigits radix (digit_front radix n text)
front-digits radix zero text = tt
front-digits radix (suc n) [] = tt
front-digits radix (suc n) (c ∷ cs) = go (is_digit_in radix c) refl (front-digits radix n cs)
  where
    go : (b : Bool) → is_digit_in radix c ≡ b → AllDigits radix (digit_front radix n cs) → AllDigits radix (take (suc n) (cond b (c ∷ front (is_digit_in radix) cs) []))
    go true e more = (grind (arith, nat_tests), more)
    go false e more = tt

pub hex-digits : (text : Text) → AllDigits 16 (hex_front text)
hex-digits [] = tt
hex-digits (c ∷ cs) = go (is_hex_digit c) refl (hex-digits cs)
  where
    go : (b : Bool) → is_hex_digit c ≡ b → AllDigits 16 (hex_front cs) → AllDigits 16 (cond b (c ∷ hex_front cs) [])
    go true e more = (grind (arith, nat_tests), more)
    go false e more = tt

-- digits have no leading plus
no_plus : (radix : ℕ) (ds : Text) → radix ≤ 36 → AllDigits radix ds → without_leading_plus ds ≡ ds
no_plus radix [] l h = refl
no_plus radix (d ∷ ds) l h = go (d == 43) refl
  where
    go : (b : Bool) → (d == 43) ≡ b → drop (cond b 1 0) (d ∷ ds) ≡ d ∷ ds
    go true e =
        let same : d ≡ 43 = eqb-true d 43 e in
        let low : digit_value 43 < radix = rw same at h.0 in
        absurd (omega arith)
    go false e = refl

-- the digits are a numeral that k bits hold
abbrev pub Fits : ℕ → ℕ → Text → Type 0
Fits k radix ds = IsNumeral radix (without_leading_plus ds) × (digits_value radix (without_leading_plus ds) < 2 ^ k)

pub parsed-ok : (k radix x : ℕ) (ds : Text) → radix ≤ 36 → AllDigits radix ds → Fits k radix ds × (x ≡ digits_value radix (without_leading_plus ds)) → x ≡ digits_value radix ds
parsed-ok k radix x ds l all parsed = parsed.1 ∙ ap (digits_value radix) (no_plus radix ds l all)

pub parsed-err : (k radix : ℕ) (ds : Text) → radix ≤ 36 → AllDigits radix ds → (Fits k radix ds → ⊥) → 0 < length ds → digits_value radix ds < 2 ^ k → ⊥
parsed-err k radix ds l all not some below =
    let same = no_plus radix ds l all in
    let fits : Fits k radix ds = rw same ((some, all), below) in
    not fits
