-- The digits of a number without separators: they are digits of its radix, and there is one.
use Rattle.std.proofs.Common.{◌≡◌, ℕ, ◌<◌, Bool, true, false, not, ◌||◌, ◌==◌, nat_lt, [], ◌∷◌, ◌++◌, length, None, refl, sym, ap, ◌∙◌, arith, eqb-true, encode_utf8_all, append-nil}
use Rattle.std.specs.Char.{digit_value}
use Rattle.std.specs.List.{list_all, list_any}
use Rattle.std.specs.Str.Parse.{AllDigits}
use Rattle.std.proofs.lemmas.Bool.{and_parts, eqb-false, not-true}
use Rattle.std.proofs.lemmas.Bool.Decides.{nat_tests}
use Rattle.std.proofs.lemmas.Str.Parse.{digit_from_value}
use Rattle.std.proofs.lemmas.Str.{digit_value_digit}
use Rattle.ecma_place.specs.Text.{Text}
use Rattle.ecma_token.specs.declared.token.Radix.{Radix}
use Rattle.ecma_token.specs.declared.token.Radix.TheVariants.{Decimal}
use Rattle.ecma_grammar.specs.Numbers.{base, digit, in_run, is_separator, is_past_octal, opens_number, Number, Prefixed, BigRun, OctalRun, DecimalRun, Fraction, NoFraction, Exponent, NoExponent, number_text, is_legacy, digit_refusal, part_refusal, written_digits, without_separators, digits_atom, number_parts, behind_number, IsRun, IsNumber}
use Rattle.ecma_number.proofs.NumberLaws.{number_tiles, number_sound, no_digit}
use Rattle.ecma_number.proofs.NumberLocal.{parts_some}
use Rattle.ecma_number.proofs.RunFaults.{any-parts}

below : (a b : ℕ) → nat_lt a b ≡ true → a < b
below a b e = grind (arith, nat_tests)

first_of_or : (a b : Bool) → (a || b) ≡ true → b ≡ false → a ≡ true
first_of_or true b e f = refl
first_of_or false b e f = cc

run_digit : (radix : Radix) (c : ℕ) → in_run radix c ≡ true → is_separator c ≡ false → digit_value c < base radix
run_digit radix c e f = below (digit_value c) (base radix) (first_of_or (digit radix c) (is_separator c) e f)

-- what is left of a run is digits of its radix
pub run-digits : (radix : Radix) (run : Text) → IsRun radix run → AllDigits (base radix) (without_separators run)
run-digits radix [] all = tt
run-digits radix (c ∷ cs) all =
    let parts = and_parts (in_run radix c) (list_all (in_run radix) cs) all in
    go (is_separator c) refl parts.0 (run-digits radix cs parts.1)
  where
    go : (x : Bool) → is_separator c ≡ x → in_run radix c ≡ true → AllDigits (base radix) (without_separators cs) → AllDigits (base radix) (without_separators (c ∷ cs))
    go true e here more = rw e more
    go false e here more = rw e (run_digit radix c here e, more)

neither : (a b : Bool) → (a || b) ≡ false → (a ≡ false) × (b ≡ false)
neither true b e = cc
neither false b e = (refl, e)

octal_digit : (c : ℕ) → in_run Decimal c ≡ true → is_separator c ≡ false → is_past_octal c ≡ false → digit_value c < 8
octal_digit c e f past =
    let low : digit_value c < 10 = run_digit Decimal c e f in
    let parts = neither (c == 56) (c == 57) past in
    let range = digit_from_value c low in
    let value = digit_value_digit c range in
    let eight : c ≡ 56 → ⊥ = eqb-false c 56 parts.0 in
    let nine : c ≡ 57 → ⊥ = eqb-false c 57 parts.1 in
    omega (arith, eight, nine, value, low)

octal_run : (run : Text) → IsRun Decimal run → list_any is_past_octal run ≡ false → AllDigits 8 (without_separators run)
octal_run [] all none = tt
octal_run (c ∷ cs) all none =
    let parts = and_parts (in_run Decimal c) (list_all (in_run Decimal) cs) all in
    let pasts = neither (is_past_octal c) (list_any is_past_octal cs) none in
    go (is_separator c) refl parts.0 pasts.0 (octal_run cs parts.1 pasts.1)
  where
    go : (x : Bool) → is_separator c ≡ x → in_run Decimal c ≡ true → is_past_octal c ≡ false → AllDigits 8 (without_separators cs) → AllDigits 8 (without_separators (c ∷ cs))
    go true e here past more = rw e more
    go false e here past more = rw e (octal_digit c here e past, more)

-- what is left of a legacy octal is octal digits
pub octal-digits : (run : Text) → IsNumber (OctalRun run) → AllDigits 8 (without_separators run)
octal-digits run form =
    octal_run run form.0 (not-true (list_any is_past_octal run) (and_parts (is_legacy run) (not (list_any is_past_octal run)) form.1).1)

-- of a run with a digit something is left
run_some : (radix : Radix) (run : Text) → list_any (digit radix) run ≡ true → 0 < length (without_separators run)
run_some radix [] any = cc
run_some radix (c ∷ cs) any = go (is_separator c) refl any (run_some radix cs)
  where
    go : (x : Bool) → is_separator c ≡ x → (digit radix c || list_any (digit radix) cs) ≡ true → (list_any (digit radix) cs ≡ true → 0 < length (without_separators cs))
        → 0 < length (without_separators (c ∷ cs))
    go true e h more =
        let none : digit radix c ≡ false = ap (digit radix) (eqb-true c 95 e) ∙ no_digit radix in
        rw e (more (rw none at h))
    go false e h more = rw e (omega arith)

-- of a front of a text that begins with a number something is left
front_some : (part rest text : Text) → part ++ rest ≡ text → opens_number text ≡ true → 0 < length part → 0 < length (without_separators part)
front_some [] rest text e opens some = absurd (omega arith)
front_some (c ∷ cs) rest text e opens some = go (is_separator c) refl
  where
    go : (x : Bool) → is_separator c ≡ x → 0 < length (without_separators (c ∷ cs))
    go true f =
        let starts = rw (← e, eqb-true c 95 f) at opens in
        cc
    go false f = rw f (omega arith)

not_refused : (n : ℕ) (radix : Radix) (run : Text) → digit_refusal n radix run ≡ None → list_any (digit radix) run ≡ true
not_refused n radix run e = go (list_any (digit radix) run) refl
  where
    go : (x : Bool) → list_any (digit radix) run ≡ x → x ≡ true
    go true f = refl
    go false f = let h = rw f at e in cc

written_some : (number : Number) (rest text follows : Text) → IsNumber number → number_text number ++ rest ≡ text → opens_number text ≡ true → 0 < length (number_text number)
    → part_refusal number follows ≡ None → 0 < length (without_separators (written_digits number))
written_some (Prefixed radix letter run suffix) rest text follows form tiles opens some none = run_some radix run (not_refused 2 radix run none)
written_some (BigRun run) rest text follows form tiles opens some none = run_some Decimal run form.1
written_some (OctalRun run) rest text follows form tiles opens some none = front_some run rest text tiles opens some
written_some (DecimalRun run fraction exponent) rest text follows form tiles opens some none = front_some (number_text (DecimalRun run fraction exponent)) rest text tiles opens some

-- a number that is not refused by its parts has a digit
pub number-some : (number : Number) (text follows : Text) → number ≡ number_parts text → opens_number text ≡ true → part_refusal number follows ≡ None
    → 0 < length (without_separators (written_digits number))
number-some number text follows e opens none =
    rw e (written_some (number_parts text) (behind_number (number_parts text) text) text follows (number_sound text) (number_tiles text) opens (parts_some text opens) (rw e at none))

-- what an atom of the digits holds

neither_any : (c : ℕ) (cs : Text) → list_any is_separator (c ∷ cs) ≡ false → (is_separator c ≡ false) × (list_any is_separator cs ≡ false)
neither_any c cs none = neither (is_separator c) (list_any is_separator cs) none

pub all_kept : (text : Text) → list_any is_separator text ≡ false → without_separators text ≡ text
all_kept [] none = refl
all_kept (c ∷ cs) none =
    let parts = neither_any c cs none in
    rw parts.0 (ap (λ l. c ∷ l) (all_kept cs parts.1))

pub atom-bytes : (text : Text) → encode_utf8_all text ≡ text → encode_utf8_all (without_separators text) ≡ without_separators text
    → (digits_atom text).bytes ≡ without_separators text
atom-bytes text all kept = go (list_any is_separator text) refl
  where
    go : (x : Bool) → list_any is_separator text ≡ x → (digits_atom text).bytes ≡ without_separators text
    go true e = rw e kept
    go false e = rw e (all ∙ sym (all_kept text e))

-- where no separator stands in a number, none stands among its digits
pub written-plain : (number : Number) → list_any is_separator (number_text number) ≡ false → list_any is_separator (written_digits number) ≡ false
written-plain (Prefixed radix letter run suffix) none = (any-parts is_separator run suffix (neither_any letter (run ++ suffix) none).1).0
written-plain (BigRun run) none = (any-parts is_separator run (110 ∷ []) none).0
written-plain (OctalRun run) none = none
written-plain (DecimalRun run f e) none = none

-- where a decimal number has neither point nor exponent, its digits are those of its run
pub plain-digits : (run : Text) (f : Fraction) (e : Exponent) (digits : Text) → IsRun Decimal run
    → digits ≡ without_separators (written_digits (DecimalRun run f e)) → f ≡ NoFraction → e ≡ NoExponent → AllDigits 10 digits
plain-digits run f e digits all is none plain = rw (is, none, plain, append-nil run) (run-digits Decimal run all)
