-- A number has the forms of its parts, is a front of the text, and is read again in front of any separator.
use Rattle.std.proofs.Common.{◌≡◌, ℕ, ◌<◌, ◌^◌, ◌⊎◌, inl, inr, Bool, true, false, cond, ◌&&◌, ◌||◌, ◌==◌, nat_lt, [], ◌∷◌, ◌++◌, drop, length, Option, Some, None, refl, ap, ◌∙◌, sym, append_assoc, arith, eqb-true, ◌+◌, not}
use Rattle.std.specs.Prelude.{is_some, option_map}
use lib.Utf8.{encode}
use Rattle.std.specs.List.{list_all, list_any}
use Rattle.std.specs.Str.Parse.{digits_value}
use Rattle.std.proofs.lemmas.Bool.{and_parts, and_right}
use Rattle.std.proofs.lemmas.Bool.Decides.{nat_tests}
use Rattle.std.proofs.lemmas.List.{drop_at}
use Rattle.ecma_place.specs.Text.{Text, byte_len}
use Rattle.ecma_place.proofs.MoveLemmas.{byte_len-append}
use Rattle.ecma_token.specs.declared.token.Radix.{Radix}
use Rattle.ecma_token.specs.declared.token.Radix.TheVariants.{Binary, Octal, Decimal, Hex}
use Rattle.ecma_grammar.specs.Fronts.{next_passes, next_is, is}
use Rattle.ecma_grammar.specs.Locality.{separates}
use Rattle.ecma_grammar.specs.Numbers.{base, digit, in_run, is_exponent_mark, is_sign, Fraction, NoFraction, Point, Exponent, NoExponent, Scaled, Prefixed, BigRun, OctalRun, DecimalRun, fraction_text, exponent_text, number_text, radix_of, prefix, run_of, behind_run, is_big, suffix_of, prefixed_number, is_octal_run, fraction, after_fraction, sign, exponent, decimal_of, decimal_number, number_behind, number_parts, fitting_value, without_separators, NumberTiles, NumberHasItsForm, NumberIsRead, WholeFits, IsRun, IsSuffix, IsFraction, IsSign, IsExponent, IsNumber, faulty_separators, seen_behind, SeparatorIsFaulty}
use Rattle.ecma_grammar.proofs.Fronts.{begins_is, front_all, front_run, after_run, front_after, separated, begins_behind, begins_before}

-- the parts that are read have their forms

fraction_sound : (text : Text) → IsFraction (fraction text)
fraction_sound text = go (next_is 46 text) refl
  where
    go : (x : Bool) → next_is 46 text ≡ x → IsFraction (fraction text)
    go true e = rw e (front_all (in_run Decimal) (drop 1 text))
    go false e = rw e tt

sign_sound : (text : Text) → IsSign (sign text)
sign_sound [] = inl refl
sign_sound (c ∷ cs) = go (is_sign c) refl
  where
    go : (x : Bool) → is_sign c ≡ x → IsSign (sign (c ∷ cs))
    go true e = rw e (inr (c, refl, e))
    go false e = rw e (inl refl)

exponent_sound : (text : Text) → IsExponent (exponent text)
exponent_sound [] = tt
exponent_sound (c ∷ cs) = go (is_exponent_mark c) refl
  where
    go : (x : Bool) → is_exponent_mark c ≡ x → IsExponent (exponent (c ∷ cs))
    go true e = rw e (e, sign_sound cs, front_all (in_run Decimal) (drop (length (sign cs)) cs))
    go false e = rw e tt

decimal_sound : (run rest : Text) → IsRun Decimal run → IsNumber (decimal_number run rest)
decimal_sound run rest all = go (is_big Decimal run rest) (is_octal_run run) refl refl
  where
    go : (x y : Bool) → is_big Decimal run rest ≡ x → is_octal_run run ≡ y → IsNumber (decimal_of x y run rest)
    go true y e f = (all, (and_parts _ _ e).0)
    go false true e f = (all, f)
    go false false e f = (all, f, fraction_sound rest, exponent_sound (after_fraction rest))

suffix_sound : (radix : Radix) (run rest : Text) → IsSuffix radix run (suffix_of (is_big radix run rest))
suffix_sound radix run rest = go (is_big radix run rest) refl
  where
    go : (x : Bool) → is_big radix run rest ≡ x → IsSuffix radix run (suffix_of x)
    go true e = inr (refl, (and_parts _ _ e).0)
    go false e = inl refl

from_some : (p q : Radix × ℕ) → Some p ≡ Some q → p ≡ q
from_some p q e = cc

prefix_sound : (text : Text) (radix : Radix) (letter : ℕ) → prefix text ≡ Some (radix, letter) → radix_of letter ≡ Some radix
prefix_sound [] radix letter e = cc
prefix_sound (c ∷ []) radix letter e = cc
prefix_sound (c ∷ (d ∷ ds)) radix letter e = go (c == 48) (radix_of d) refl e
  where
    go : (x : Bool) (o : Option Radix) → radix_of d ≡ o → cond x (option_map {U = Radix × ℕ} (λ r. (r, d)) o) None ≡ Some (radix, letter) → radix_of letter ≡ Some radix
    go true (Some r) g f =
        let same : (r, d) ≡ (radix, letter) = from_some _ _ f in
        ap radix_of (sym (ap (λ p. p.1) same)) ∙ g ∙ ap (λ p. Some p.0) same
    go true None g f = cc
    go false o g f = cc

-- each number that is read has the forms of its parts
pub number_sound : NumberHasItsForm
number_sound text = go (prefix text) refl
  where
    go : (o : Option (Radix × ℕ)) → prefix text ≡ o → IsNumber (number_behind o text)
    go (Some p) e =
        (prefix_sound text p.0 p.1 e, front_all (in_run p.0) (drop 2 text), suffix_sound p.0 (run_of p.0 (drop 2 text)) (behind_run p.0 (drop 2 text)))
    go None e = decimal_sound (run_of Decimal text) (behind_run Decimal text) (front_all (in_run Decimal) text)

-- what a run stops at

stops_at_space : (radix : Radix) → in_run radix 32 ≡ false
stops_at_space Binary = refl
stops_at_space Octal = refl
stops_at_space Decimal = refl
stops_at_space Hex = refl

stops_at_line_feed : (radix : Radix) → in_run radix 10 ≡ false
stops_at_line_feed Binary = refl
stops_at_line_feed Octal = refl
stops_at_line_feed Decimal = refl
stops_at_line_feed Hex = refl

stops_at_n : (radix : Radix) → in_run radix 110 ≡ false
stops_at_n Binary = refl
stops_at_n Octal = refl
stops_at_n Decimal = refl
stops_at_n Hex = refl

-- a number with a prefix is read again

suffix_stops : (radix : Radix) (run suffix tail : Text) → IsSuffix radix run suffix → separates tail ≡ true → next_passes (in_run radix) (suffix ++ tail) ≡ false
suffix_stops radix run suffix tail (inl e) h = rw e (separated (in_run radix) tail (stops_at_space radix) (stops_at_line_feed radix) h)
suffix_stops radix run suffix tail (inr e) h = rw e.0 (stops_at_n radix)

suffix_back : (radix : Radix) (run suffix tail : Text) → IsSuffix radix run suffix → separates tail ≡ true → suffix_of (is_big radix run (suffix ++ tail)) ≡ suffix
suffix_back radix run suffix tail (inl e) h = rw e (rw (and_right (list_any (digit radix) run) (next_is 110 tail) (separated (is 110) tail refl refl h)))
suffix_back radix run suffix tail (inr e) h = rw e.0 (rw e.1)

prefixed_back : (radix : Radix) (letter : ℕ) (run suffix tail : Text) → IsRun radix run → IsSuffix radix run suffix → separates tail ≡ true
    → prefixed_number radix letter ((run ++ suffix) ++ tail) ≡ Prefixed radix letter run suffix
prefixed_back radix letter run suffix tail all suf h =
    let stop = suffix_stops radix run suffix tail suf h in
    rw append_assoc (rw (front_run (in_run radix) run (suffix ++ tail) all stop, after_run (in_run radix) run (suffix ++ tail) all stop) (ap (λ l. Prefixed radix letter run l) (suffix_back radix run suffix tail suf h)))

-- a decimal number has no prefix

abbrev pub is_letter : ℕ → Bool
is_letter c = is_some (radix_of c)

from_no_letter : (o : Option Radix) → is_some o ≡ false → o ≡ None
from_no_letter (Some r) e = cc
from_no_letter None e = refl

no_letter : (c : ℕ) → in_run Decimal c ≡ true → is_letter c ≡ false
no_letter c e = grind (arith, nat_tests)

no_zero : (c : ℕ) → in_run Decimal c ≡ false → (c == 48) ≡ false
no_zero c e = grind (arith, nat_tests)

second_letter : (x : Bool) (d : ℕ) → is_letter d ≡ false → cond x (option_map {U = Radix × ℕ} (λ r. (r, d)) (radix_of d)) None ≡ None
second_letter true d e = rw (from_no_letter (radix_of d) e)
second_letter false d e = refl

pub no_prefix : (run tail : Text) → IsRun Decimal run → next_passes (in_run Decimal) tail ≡ false → next_passes is_letter tail ≡ false → prefix (run ++ tail) ≡ None
no_prefix [] [] all stop letter = refl
no_prefix [] (c ∷ []) all stop letter = refl
no_prefix [] (c ∷ (d ∷ ds)) all stop letter = rw (no_zero c stop)
no_prefix (c ∷ []) [] all stop letter = refl
no_prefix (c ∷ []) (d ∷ ds) all stop letter = second_letter (c == 48) d letter
no_prefix (c ∷ (d ∷ ds)) tail all stop letter = second_letter (c == 48) d (no_letter d (and_parts _ _ (and_parts _ _ all).1).0)

pub number_decimal : (run tail : Text) → IsRun Decimal run → next_passes (in_run Decimal) tail ≡ false → next_passes is_letter tail ≡ false
    → number_parts (run ++ tail) ≡ decimal_number run tail
number_decimal run tail all stop letter =
    rw (no_prefix run tail all stop letter) (rw (front_run (in_run Decimal) run tail all stop, after_run (in_run Decimal) run tail all stop))

-- what the parts behind the first run begin with

mark_is : (c : ℕ) → is_exponent_mark c ≡ true → (c ≡ 101) ⊎ (c ≡ 69)
mark_is c e = go (c == 101) refl e
  where
    go : (x : Bool) → (c == 101) ≡ x → (x || (c == 69)) ≡ true → (c ≡ 101) ⊎ (c ≡ 69)
    go true f h = inl (eqb-true c 101 f)
    go false f h = inr (eqb-true c 69 h)

exponent_begins : (p : ℕ → Bool) (e : Exponent) (tail : Text) → IsExponent e → separates tail ≡ true
    → p 101 ≡ false → p 69 ≡ false → p 32 ≡ false → p 10 ≡ false → next_passes p (exponent_text e ++ tail) ≡ false
exponent_begins p NoExponent tail is_exponent h small large space line = separated p tail space line h
exponent_begins p (Scaled mark sgn run) tail is_exponent h small large space line =
    elim (mark_is mark is_exponent.0) [ inl e ↦ ap p e ∙ small | inr e ↦ ap p e ∙ large ]

parts_begin : (p : ℕ → Bool) (f : Fraction) (e : Exponent) (tail : Text) → IsExponent e → separates tail ≡ true
    → p 46 ≡ false → p 101 ≡ false → p 69 ≡ false → p 32 ≡ false → p 10 ≡ false → next_passes p (fraction_text f ++ (exponent_text e ++ tail)) ≡ false
parts_begin p (Point run) e tail is_exponent h dot small large space line = dot
parts_begin p NoFraction e tail is_exponent h dot small large space line = exponent_begins p e tail is_exponent h small large space line

-- the parts are read again

pub fraction_back : (f : Fraction) (tail : Text) → IsFraction f → next_passes (in_run Decimal) tail ≡ false → next_is 46 tail ≡ false
    → fraction (fraction_text f ++ tail) ≡ f
fraction_back NoFraction tail all stop dot = rw dot
fraction_back (Point run) tail all stop dot = ap Point (front_run (in_run Decimal) run tail all stop)

no_sign : (c : ℕ) → in_run Decimal c ≡ true → is_sign c ≡ false
no_sign c e = grind (arith, nat_tests)

sign_none : (text : Text) → next_passes is_sign text ≡ false → sign text ≡ []
sign_none [] e = refl
sign_none (c ∷ cs) e = rw e

sign_back : (sgn run tail : Text) → IsSign sgn → IsRun Decimal run → separates tail ≡ true → sign (sgn ++ (run ++ tail)) ≡ sgn
sign_back sgn run tail (inl e) all h = rw e (sign_none (run ++ tail) (begins_behind is_sign (in_run Decimal) run tail no_sign all (separated is_sign tail refl refl h)))
sign_back sgn run tail (inr (c, e, is)) all h = rw e (rw is)

exponent_back : (e : Exponent) (tail : Text) → IsExponent e → separates tail ≡ true → exponent (exponent_text e ++ tail) ≡ e
exponent_back NoExponent [] is_exponent h = refl
exponent_back NoExponent (c ∷ cs) is_exponent h = rw (separated is_exponent_mark (c ∷ cs) refl refl h)
exponent_back (Scaled mark sgn run) tail is_exponent h =
    let stop = separated (in_run Decimal) tail refl refl h in
    rw append_assoc
    (rw (is_exponent.0, sign_back sgn run tail is_exponent.1 is_exponent.2 h, drop_at sgn (run ++ tail) _ refl, front_run (in_run Decimal) run tail is_exponent.2 stop))

-- a number is read again in front of any separator
pub number_back : NumberIsRead
number_back (Prefixed radix letter run suffix) tail h free = rw h.0 (prefixed_back radix letter run suffix tail h.1 h.2 free)
number_back (BigRun run) tail h free = rw append_assoc (rw (number_decimal run (110 ∷ tail) h.0 refl refl) (rw h.1))
number_back (OctalRun run) tail h free =
    rw (number_decimal run tail h.0 (separated (in_run Decimal) tail refl refl free) (separated is_letter tail refl refl free))
    (rw (and_right (list_any (digit Decimal) run) (next_is 110 tail) (separated (is 110) tail refl refl free), h.1))
number_back (DecimalRun run f e) tail h free =
    let x = exponent_text e ++ tail in
    let stop : next_passes (in_run Decimal) (fraction_text f ++ x) ≡ false = parts_begin (in_run Decimal) f e tail h.3 free refl refl refl refl refl in
    let letter : next_passes is_letter (fraction_text f ++ x) ≡ false = parts_begin is_letter f e tail h.3 free refl refl refl refl refl in
    let no_n : next_is 110 (fraction_text f ++ x) ≡ false = parts_begin (is 110) f e tail h.3 free refl refl refl refl refl in
    let stop_e : next_passes (in_run Decimal) x ≡ false = exponent_begins (in_run Decimal) e tail h.3 free refl refl refl refl in
    let dot : next_is 46 x ≡ false = exponent_begins (is 46) e tail h.3 free refl refl refl refl in
    rw (append_assoc run (fraction_text f ++ exponent_text e) tail, append_assoc (fraction_text f) (exponent_text e) tail, number_decimal run (fraction_text f ++ x) h.0 stop letter)
    (rw (and_right (list_any (digit Decimal) run) _ no_n, h.1, fraction_back f x h.2 stop_e dot, drop_at (fraction_text f) x _ refl, exponent_back e tail h.3 free))

-- what is written of a number is a front of the text

abbrev pub IsFront : Text → Text → Type 0
IsFront part text = (rest : Text) × (part ++ rest ≡ text)

-- a front of what follows a front makes a longer one
front_more_front : (a b text : Text) → (f : IsFront a text) → IsFront b f.0 → IsFront (a ++ b) text
front_more_front a b text f g = (g.0, rw append_assoc (ap (λ l. a ++ l) g.1 ∙ f.1))

suffix_front : (radix : Radix) (run rest : Text) → IsFront (suffix_of (is_big radix run rest)) rest
suffix_front radix run rest = go (is_big radix run rest) refl
  where
    go : (x : Bool) → is_big radix run rest ≡ x → IsFront (suffix_of x) rest
    go true e = (drop 1 rest, sym (begins_is 110 rest (and_parts (list_any (digit radix) run) (next_is 110 rest) e).1))
    go false e = (rest, refl)

run_front : (radix : Radix) (text : Text) → IsFront (run_of radix text) text
run_front radix text = (behind_run radix text, front_after (in_run radix) text)

-- what follows a front, by its length
front_drop : (part text : Text) → IsFront part text → part ++ drop (length part) text ≡ text
front_drop part text f = rw (← f.1) (ap (λ l. part ++ l) (drop_at part f.0 _ refl))

fraction_front : (text : Text) → fraction_text (fraction text) ++ after_fraction text ≡ text
fraction_front [] = refl
fraction_front (c ∷ cs) = go (c == 46) refl
  where
    go : (x : Bool) → (c == 46) ≡ x → fraction_text (fraction (c ∷ cs)) ++ after_fraction (c ∷ cs) ≡ c ∷ cs
    go true e =
        let same : 46 ≡ c = sym (eqb-true c 46 e) in
        rw e (ap (λ l. 46 ∷ l) (front_drop _ cs (run_front Decimal cs)) ∙ ap (λ x. x ∷ cs) same)
    go false e = rw e

sign_front : (text : Text) → sign text ++ drop (length (sign text)) text ≡ text
sign_front [] = refl
sign_front (c ∷ cs) = go (is_sign c) refl
  where
    go : (x : Bool) → is_sign c ≡ x → sign (c ∷ cs) ++ drop (length (sign (c ∷ cs))) (c ∷ cs) ≡ c ∷ cs
    go true e = rw e
    go false e = rw e

exponent_front : (text : Text) → IsFront (exponent_text (exponent text)) text
exponent_front [] = ([], refl)
exponent_front (c ∷ cs) = go (is_exponent_mark c) refl
  where
    go : (x : Bool) → is_exponent_mark c ≡ x → IsFront (exponent_text (exponent (c ∷ cs))) (c ∷ cs)
    go true e =
        let behind = drop (length (sign cs)) cs in
        let both = front_more_front (sign cs) (run_of Decimal behind) cs (behind, sign_front cs) (run_front Decimal behind) in
        rw e (both.0, ap (λ l. c ∷ l) both.1)
    go false e = rw e (c ∷ cs, refl)

decimal_front : (run rest text : Text) → run ++ rest ≡ text → IsFront (number_text (decimal_number run rest)) text
decimal_front run rest text h = go (is_big Decimal run rest) (is_octal_run run) refl
  where
    go : (x y : Bool) → is_big Decimal run rest ≡ x → IsFront (number_text (decimal_of x y run rest)) text
    go true y e = front_more_front run (110 ∷ []) text (rest, h) (rw e at (suffix_front Decimal run rest))
    go false true e = (rest, h)
    go false false e =
        front_more_front run (fraction_text (fraction rest) ++ exponent_text (exponent (after_fraction rest))) text (rest, h)
        (front_more_front (fraction_text (fraction rest)) (exponent_text (exponent (after_fraction rest))) rest (after_fraction rest, fraction_front rest) (exponent_front (after_fraction rest)))

prefix_front : (text : Text) (radix : Radix) (letter : ℕ) → prefix text ≡ Some (radix, letter) → 48 ∷ (letter ∷ drop 2 text) ≡ text
prefix_front [] radix letter e = cc
prefix_front (c ∷ []) radix letter e = cc
prefix_front (c ∷ (d ∷ ds)) radix letter e = go (c == 48) (radix_of d) refl e
  where
    go : (x : Bool) (o : Option Radix) → (c == 48) ≡ x → cond x (option_map {U = Radix × ℕ} (λ r. (r, d)) o) None ≡ Some (radix, letter) → 48 ∷ (letter ∷ ds) ≡ c ∷ (d ∷ ds)
    go true (Some r) g f =
        let same : (r, d) ≡ (radix, letter) = from_some _ _ f in
        let zero_digit : c ≡ 48 = eqb-true c 48 g in
        let which : d ≡ letter = ap (λ p. p.1) same in
        rw (zero_digit, which)
    go true None g f = cc
    go false o g f = cc

-- the parts of the number in a row are a front of the text
pub number_front : (text : Text) → IsFront (number_text (number_parts text)) text
number_front text = go (prefix text) refl
  where
    go : (o : Option (Radix × ℕ)) → prefix text ≡ o → IsFront (number_text (number_behind o text)) text
    go (Some p) e =
        let run = run_of p.0 (drop 2 text) in
        let rest = behind_run p.0 (drop 2 text) in
        let both = front_more_front run (suffix_of (is_big p.0 run rest)) (drop 2 text) (rest, front_after (in_run p.0) (drop 2 text)) (suffix_front p.0 run rest) in
        (both.0, ap (λ l. 48 ∷ (p.1 ∷ l)) both.1 ∙ prefix_front text p.0 p.1 e)
    go None e = decimal_front (run_of Decimal text) (behind_run Decimal text) text (front_after (in_run Decimal) text)

-- and with what follows them they are the text
pub number_tiles : NumberTiles
number_tiles text = front_drop (number_text (number_parts text)) text (number_front text)

-- a whole value fits

fits : (radix : Radix) (digits : Text) (value : ℕ) → fitting_value radix digits ≡ Some value → value < 2 ^ 128
fits radix digits value e = go (nat_lt (digits_value (base radix) digits) (2 ^ 128)) refl e
  where
    go : (x : Bool) → nat_lt (digits_value (base radix) digits) (2 ^ 128) ≡ x → cond x (Some (digits_value (base radix) digits)) None ≡ Some value → value < 2 ^ 128
    go true t e =
        let same : digits_value (base radix) digits ≡ value = cc in
        let below : digits_value (base radix) digits < 2 ^ 128 = grind (arith, nat_tests) in
        rw same at below
    go false t e = cc

pub whole_fits : WholeFits
whole_fits (Prefixed radix letter run []) value e = fits radix (without_separators run) value e
whole_fits (Prefixed radix letter run (c ∷ cs)) value e = cc
whole_fits (BigRun run) value e = cc
whole_fits (OctalRun run) value e = fits Octal (without_separators run) value e
whole_fits (DecimalRun run NoFraction NoExponent) value e = fits Decimal (without_separators run) value e
whole_fits (DecimalRun run NoFraction (Scaled mark sgn digits)) value e = cc
whole_fits (DecimalRun run (Point digits) e') value e = cc

-- separators

pub no_digit : (radix : Radix) → digit radix 95 ≡ false
no_digit Binary = refl
no_digit Octal = refl
no_digit Decimal = refl
no_digit Hex = refl

-- a character of a run is a digit where it is no separator
digit_if : (radix : Radix) (c : ℕ) → in_run radix c ≡ true → not (c == 95) ≡ digit radix c
digit_if radix c h = go (c == 95) refl (digit radix c) refl h
  where
    go : (x : Bool) → (c == 95) ≡ x → (y : Bool) → digit radix c ≡ y → (y || x) ≡ true → not x ≡ y
    go true e y d h = sym (no_digit radix) ∙ ap (digit radix) (sym (eqb-true c 95 e)) ∙ d
    go false e true d h = refl
    go false e false d h = cc

at_separator : (allowed : Bool) (radix : Radix) (seen : Bool) (n : ℕ) (next : Text)
    → faulty_separators allowed radix seen n (95 ∷ next) ≡ (cond ((allowed && seen) && next_passes (digit radix) next) [] (n ∷ [])) ++ faulty_separators allowed radix seen (n + 1) next
unfolding encode
at_separator true radix true n next = go (next_passes (digit radix) next)
  where
    go : (x : Bool) → cond (not x) (n ∷ []) [] ++ faulty_separators true radix true (n + 1) next ≡ cond x [] (n ∷ []) ++ faulty_separators true radix true (n + 1) next
    go true = refl
    go false = refl
at_separator true radix false n next = refl
at_separator false radix true n next = refl
at_separator false radix false n next = refl

or_assoc : (x y z : Bool) → ((x || y) || z) ≡ (x || (y || z))
or_assoc true y z = refl
or_assoc false y z = refl

around : (allowed : Bool) (radix : Radix) (seen : Bool) (n : ℕ) (before next : Text) → IsRun radix before
    → faulty_separators allowed radix seen n (before ++ (95 ∷ next))
    ≡ faulty_separators allowed radix seen n before
    ++ (cond ((allowed && (seen || list_any (digit radix) before)) && next_passes (digit radix) next) [] ((n + byte_len before) ∷ [])
    ++ faulty_separators allowed radix (seen || list_any (digit radix) before) ((n + byte_len before) + 1) next)
around allowed radix seen n [] next h =
    let same : (seen || false) ≡ seen = or_none seen in
    let here : n + 0 ≡ n = omega arith in
    at_separator allowed radix seen n next
    ∙ ap (λ x. cond ((allowed && x) && next_passes (digit radix) next) [] (n ∷ []) ++ faulty_separators allowed radix x (n + 1) next) (sym same)
    ∙ ap (λ m. cond ((allowed && (seen || false)) && next_passes (digit radix) next) [] (m ∷ []) ++ faulty_separators allowed radix (seen || false) (m + 1) next) (sym here)
  where
    or_none : (x : Bool) → (x || false) ≡ x
    or_none true = refl
    or_none false = refl
around allowed radix seen n (c ∷ cs) next h =
    let both = and_parts (in_run radix c) (list_all (in_run radix) cs) h in
    let same : next_passes (digit radix) (cs ++ (95 ∷ next)) ≡ next_passes (digit radix) cs = begins_before (digit radix) cs (95 ∷ next) (no_digit radix) in
    let seen_more : (seen_behind seen c || list_any (digit radix) cs) ≡ (seen || (digit radix c || list_any (digit radix) cs)) =
    or_assoc seen (not (c == 95)) (list_any (digit radix) cs) ∙ ap (λ x. seen || (x || list_any (digit radix) cs)) (digit_if radix c both.0) in
    let long : (n + byte_len (c ∷ [])) + byte_len cs ≡ n + byte_len (c ∷ cs) = omega (arith, byte_len-append (c ∷ []) cs) in
    let more = around allowed radix (seen_behind seen c) (n + byte_len (c ∷ [])) cs next both.1 in
    let shape : Bool → ℕ → Text → Text = λ x m l.
    l ++ (cond ((allowed && x) && next_passes (digit radix) next) [] (m ∷ []) ++ faulty_separators allowed radix x (m + 1) next) in
    let first = cond (c == 95 && not ((allowed && seen) && next_passes (digit radix) cs)) (n ∷ []) [] in
    let behind = faulty_separators allowed radix (seen_behind seen c) (n + byte_len (c ∷ [])) cs in
    ap (λ x. cond (c == 95 && not ((allowed && seen) && x)) (n ∷ []) [] ++ faulty_separators allowed radix (seen_behind seen c) (n + byte_len (c ∷ [])) (cs ++ (95 ∷ next))) same
    ∙ ap (λ l. first ++ l) (more ∙ ap (λ x. shape x ((n + byte_len (c ∷ [])) + byte_len cs) behind) seen_more ∙ ap (λ m. shape (seen || (digit radix c || list_any (digit radix) cs)) m behind) long)
    ∙ sym (append_assoc first behind _)

pub separator_is_faulty : SeparatorIsFaulty
separator_is_faulty allowed radix before next h =
    let seen = list_any (digit radix) before in
    let same : 0 + byte_len before ≡ byte_len before = omega arith in
    around allowed radix false 0 before next h
    ∙ ap (λ m. faulty_separators allowed radix false 0 before ++ (cond ((allowed && seen) && next_passes (digit radix) next) [] (m ∷ []) ++ faulty_separators allowed radix seen (m + 1) next)) same
