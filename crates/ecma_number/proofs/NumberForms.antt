-- The text of a number is ASCII: its bytes are its characters.
use Rattle.std.proofs.Common.{◌≡◌, ℕ, ◌<◌, Bool, true, false, cond, ◌||◌, ◌==◌, nat_lt, [], ◌∷◌, ◌++◌, inl, inr, length, Some, None, refl, ap, ◌∙◌, arith, encode_utf8_all}
use Rattle.std.specs.List.{list_all, filter}
use Rattle.std.proofs.lemmas.Bool.{and_parts}
use Rattle.std.proofs.lemmas.Bool.Decides.{nat_tests}
use Rattle.std.proofs.lemmas.List.Folds.{list_all-append}
use Rattle.ecma_place.specs.Text.{Text, byte_len}
use Rattle.ecma_token.specs.declared.token.Radix.{Radix}
use Rattle.ecma_token.specs.declared.token.Radix.TheVariants.{Binary, Octal, Decimal, Hex}
use Rattle.ecma_grammar.specs.Numbers.{Number, Prefixed, BigRun, OctalRun, DecimalRun, Fraction, NoFraction, Point, Exponent, NoExponent, Scaled, number_text, fraction_text, exponent_text, radix_of, in_run, is_exponent_mark, written_digits, without_separators, IsRun, IsSuffix, IsFraction, IsSign, IsExponent, IsNumber}
use Rattle.ecma_grammar.proofs.RunReading.{run-ascii, ascii-bytes}

abbrev is_low : ℕ → Bool
is_low c = nat_lt c 128

abbrev IsLow : Text → Type 0
IsLow text = list_all is_low text ≡ true

low_test : (c : ℕ) → c < 128 → is_low c ≡ true
low_test c low = grind (arith, nat_tests)

test_low : (c : ℕ) → is_low c ≡ true → c < 128
test_low c test = grind (arith, nat_tests)

more_low : (c : ℕ) (cs : Text) → c < 128 → IsLow cs → IsLow (c ∷ cs)
more_low c cs low more = rw (low_test c low) more

both_low : (xs ys : Text) → IsLow xs → IsLow ys → IsLow (xs ++ ys)
both_low xs ys first second = list_all-append is_low xs ys ∙ rw first second

run_low : (radix : Radix) (run : Text) → IsRun radix run → IsLow run
run_low radix [] all = refl
run_low radix (c ∷ cs) all =
    let parts = and_parts (in_run radix c) (list_all (in_run radix) cs) all in
    more_low c cs (run-ascii radix c parts.0) (run_low radix cs parts.1)

low_letter : (radix : Radix) (c : ℕ) → radix_of c ≡ Some radix → c < 128
low_letter radix c e = go (c == 120 || c == 88) (c == 111 || c == 79) (c == 98 || c == 66) refl refl refl e
  where
    go : (x y z : Bool) → (c == 120 || c == 88) ≡ x → (c == 111 || c == 79) ≡ y → (c == 98 || c == 66) ≡ z
        → cond x (Some Hex) (cond y (Some Octal) (cond z (Some Binary) None)) ≡ Some radix → c < 128
    go true y z f g h k = grind (arith, nat_tests)
    go false true z f g h k = grind (arith, nat_tests)
    go false false true f g h k = grind (arith, nat_tests)
    go false false false f g h k = cc

suffix_low : (radix : Radix) (run suffix : Text) → IsSuffix radix run suffix → IsLow suffix
suffix_low radix run suffix (inl e) = rw e refl
suffix_low radix run suffix (inr e) = rw e.0 refl

sign_low : (sign : Text) → IsSign sign → IsLow sign
sign_low sign (inl e) = rw e refl
sign_low sign (inr e) = rw e.1 (more_low e.0 [] (grind (arith, nat_tests)) refl)

fraction_low : (fraction : Fraction) → IsFraction fraction → IsLow (fraction_text fraction)
fraction_low NoFraction form = refl
fraction_low (Point run) form = run_low Decimal run form

low_mark : (mark : ℕ) → is_exponent_mark mark ≡ true → mark < 128
low_mark mark is = grind (arith, nat_tests)

exponent_low : (exponent : Exponent) → IsExponent exponent → IsLow (exponent_text exponent)
exponent_low NoExponent form = refl
exponent_low (Scaled mark sign run) form = more_low mark (sign ++ run) (low_mark mark form.0) (both_low sign run (sign_low sign form.1) (run_low Decimal run form.2))

number_low : (number : Number) → IsNumber number → IsLow (number_text number)
number_low (Prefixed radix letter run suffix) form =
    more_low letter (run ++ suffix) (low_letter radix letter form.0) (both_low run suffix (run_low radix run form.1) (suffix_low radix run suffix form.2))
number_low (BigRun run) form = both_low run (110 ∷ []) (run_low Decimal run form.0) refl
number_low (OctalRun run) form = run_low Decimal run form.0
number_low (DecimalRun run f e) form =
    both_low run (fraction_text f ++ exponent_text e) (run_low Decimal run form.0) (both_low (fraction_text f) (exponent_text e) (fraction_low f form.2) (exponent_low e form.3))

low_bytes : (text : Text) → IsLow text → encode_utf8_all text ≡ text
low_bytes text low = ascii-bytes is_low text test_low low

pub number-bytes : (number : Number) → IsNumber number → encode_utf8_all (number_text number) ≡ number_text number
number-bytes number form = low_bytes (number_text number) (number_low number form)

pub number-length : (number : Number) → IsNumber number → byte_len (number_text number) ≡ length (number_text number)
number-length number form = ap length (number-bytes number form)

-- how many bytes stand before a number's exponent
pub before_exponent-length : (run : Text) (f : Fraction) (e : Exponent) → IsNumber (DecimalRun run f e) → byte_len (run ++ fraction_text f) ≡ length (run ++ fraction_text f)
before_exponent-length run f e form = ap length (low_bytes (run ++ fraction_text f) (both_low run (fraction_text f) (run_low Decimal run form.0) (fraction_low f form.2)))

-- its digits, with separators and without

written_low : (number : Number) → IsNumber number → IsLow (written_digits number)
written_low (Prefixed radix letter run suffix) form = run_low radix run form.1
written_low (BigRun run) form = run_low Decimal run form.0
written_low (OctalRun run) form = run_low Decimal run form.0
written_low (DecimalRun run f e) form = number_low (DecimalRun run f e) form

kept_low : (p : ℕ → Bool) (text : Text) → IsLow text → IsLow (filter p text)
kept_low p [] low = refl
kept_low p (c ∷ cs) low =
    let parts = and_parts (is_low c) (list_all is_low cs) low in
    go (p c) refl (kept_low p cs parts.1) parts.0
  where
    go : (x : Bool) → p c ≡ x → IsLow (filter p cs) → is_low c ≡ true → IsLow (filter p (c ∷ cs))
    go true e more here = rw (e, here) more
    go false e more here = rw e more

pub written-bytes : (number : Number) → IsNumber number → encode_utf8_all (written_digits number) ≡ written_digits number
written-bytes number form = low_bytes (written_digits number) (written_low number form)

pub kept-bytes : (number : Number) → IsNumber number → encode_utf8_all (without_separators (written_digits number)) ≡ without_separators (written_digits number)
kept-bytes number form = low_bytes _ (kept_low _ (written_digits number) (written_low number form))
