-- A plain decimal number is read as it is, and nothing is told of it besides.
use Rattle.std.proofs.Common.{◌≡◌, ℕ, ◌+◌, ◌-◌, ◌*◌, ◌<◌, ◌≤◌, ◌^◌, Bool, true, false, not, ◌||◌, ◌==◌, nat_lt, List, [], ◌∷◌, ◌++◌, take, drop, get_or, length, map, Ok, Option, take-append-drop, length-take-le, length-append, length-drop, drop-cons, drop-drop, add-one, Some, None, refl, sym, ap, ◌∙◌, arith, zero, suc, nat_le, ⊎_elim, lit<, add-zero, append_assoc, append-nil, encode_utf8_all, encode_utf8}
use borrow.Author.Count.{below_more}
use Rattle.std.specs.Char.{digit_value}
use Rattle.std.specs.List.{list_all, list_any, prefix_len}
use Rattle.std.specs.Str.Parse.{digits_value, AllDigits}
use Rattle.std.proofs.lemmas.Bool.{true≢false, and_parts, and_right, not-true}
use Rattle.std.proofs.lemmas.Bool.Decides.{nat_tests, leb_tells}
use Rattle.std.proofs.lemmas.Int.Digits.{digits_value_more, digits_value-lt}
use Rattle.std.proofs.lemmas.Int.Digits as Digits
use Rattle.std.proofs.Math.Nat.{pow-le-pow_right}
use Rattle.std.proofs.lemmas.List.{drop_at, take_at, get_or-drop}
use Rattle.std.proofs.lemmas.Grind.{common_steps}
use Rattle.std.proofs.lemmas.List.Folds.{list_any-append}
use Rattle.std.proofs.lemmas.List.Sums.{prefix_len_is, prefix_len_stops}
use Rattle.std.proofs.lemmas.Str.{encodes-append, cons_from_encodes, encode_ascii, digit_value_digit}
use Rattle.std.proofs.lemmas.Str.Parse.{digit_from_value}
use Rattle.ecma_place.specs.Text.{Text, byte_len}
use Rattle.ecma_place.specs.Cursor.{Cursor, rest, place, passed, HasPlace, count_within}
use Rattle.ecma_place.specs.Atom.{AtomView}
use Rattle.ecma_place.specs.declared.place.Span.{Span}
use Rattle.ecma_place.proofs.CursorLemmas.{count_within-byte_len}
use Rattle.ecma_place.proofs.MoveLemmas.{place-passed}
use Rattle.ecma_place.specs.Character.{is_ident_start}
use Rattle.ecma_syntax.specs.declared.settings.NumberRule.{NumberRule}
use Rattle.ecma_syntax.specs.declared.settings.NumberRule.TheVariants.{Crate, Standard}
use Rattle.ecma_token.specs.View.{TokenView, plain_token}
use Rattle.ecma_token.specs.declared.token.Token.{Num}
use Rattle.ecma_token.specs.declared.token.Radix.TheVariants.{Decimal}
use Rattle.ecma_grammar.specs.Found.{found_at, token_behind, fault_behind, span_of}
use Rattle.ecma_grammar.specs.Fronts.{next_passes, next_is, is}
use Rattle.ecma_grammar.specs.Numbers.{digit, in_run, is_separator, is_exponent_mark, is_legacy, is_octal_run, Number, DecimalRun, Fraction, NoFraction, Point, NoExponent, fraction_text, number_text, number_parts, behind_number, refusal, fraction, number, number_token, whole_value, raw_atom, digits_atom, may_not_follow, may_hold_separators, part_faults, fraction_faults, octal_faults, found_number, IsRun, IsFraction, IsNumber}
use Rattle.ecma_grammar.proofs.NumberFound.{front-taken, small-token, accepted-found, seen}
use Rattle.ecma_grammar.proofs.Fronts.{front_run, front-is, front_all, length-take_while}
use Rattle.ecma_number.specs.PlainNumbers.{AreDigits, fraction_digits, ends_number, goes_on, IsPlain, StartsPlain}
use Rattle.ecma_number.proofs.NumberLaws.{number_decimal, is_letter}
use Rattle.ecma_number.proofs.NumberDigits.{all_kept}
use Rattle.ecma_number.proofs.NumberForms.{number-bytes, number-length}
use Rattle.ecma_number.proofs.NumberLocal.{next_refusal_none}
use Rattle.ecma_number.proofs.RunFaults.{no_separators, or_none}

-- The digits with which bytes begin, and their value

low_value : (b : ℕ) → digit Decimal b ≡ true → digit_value b < 10
low_value b h = grind (arith, nat_tests)

pub worth-more : (bytes : List ℕ) (count value b : ℕ) → count < length bytes → b ≡ get_or bytes count 0 → digit Decimal b ≡ true
    → value ≡ digits_value 10 (take count bytes) → value * 10 + (b - 48) ≡ digits_value 10 (take (count + 1) bytes)
worth-more bytes count value b inside e here before =
    let is = digit_value_digit b (digit_from_value b (low_value b here)) in
    let step : b - 48 ≡ digit_value b = omega arith in
    ap (λ (v : ℕ). v * 10 + (b - 48)) before ∙ ap (λ (d : ℕ). digits_value 10 (take count bytes) * 10 + d) (step ∙ ap digit_value e)
    ∙ sym (digits_value_more 10 bytes count inside)

abbrev pub AllBelow : List ℕ → ℕ → Type 0
AllBelow bytes count = (k : ℕ) → k < count → digit Decimal (get_or bytes k 0) ≡ true

pub digits-more : (bytes : List ℕ) (count : ℕ) → AllBelow bytes count → digit Decimal (get_or bytes count 0) ≡ true → AllBelow bytes (count + 1)
digits-more bytes count below here = below_more (λ k. digit Decimal (get_or bytes k 0) ≡ true) count below here

-- digits up to a byte that is none, or to the end
pub digits-stop : (bytes : List ℕ) (count : ℕ) → count ≤ length bytes → AllBelow bytes count → (count < length bytes → digit Decimal (get_or bytes count 0) ≡ false)
    → count ≡ prefix_len (digit Decimal) bytes
digits-stop bytes count within below stop = sym (prefix_len_is (digit Decimal) bytes count 0 within below stop)

all-digits : (bytes : List ℕ) (count : ℕ) → count ≤ length bytes → AllBelow bytes count → AllDigits 10 (take count bytes)
all-digits bytes zero within below = tt
all-digits bytes (suc k) within below =
    let last : k + 1 ≡ suc k = omega arith in
    rw last at (Digits.digits_more 10 bytes k (omega arith) (all-digits bytes k (omega arith) (λ i less. below i (omega arith))) (low_value (get_or bytes k 0) (below k (omega arith))))

-- so large a value has more than 17 digits
long-value : (bytes : List ℕ) (count value : ℕ) → count ≤ length bytes → AllBelow bytes count → value ≡ digits_value 10 (take count bytes) → 100000000000000000 ≤ value → 18 ≤ count
long-value bytes count value within below worth long =
    ⊎_elim
    (λ (h : (nat_le 18 count ≡ true) × (18 ≤ count)). h.1)
    (λ (h : (nat_le 18 count ≡ false) × (count < 18)).
    let low : digits_value 10 (take count bytes) < 10 ^ length (take count bytes) = digits_value-lt 10 (take count bytes) (all-digits bytes count within below) in
    let here : digits_value 10 (take count bytes) < 10 ^ count = rw (length-take-le count bytes within) at low in
    let few : count ≤ 17 = omega (arith, h.1) in
    let bound : 10 ^ count ≤ 100000000000000000 = pow-le-pow_right {n = 10} (lit< tt) few in
    absurd (omega (arith, here, bound, worth, long)))
    (leb_tells 18 count)

-- and then one digit more
pub value-long : (bytes : List ℕ) (count value : ℕ) → count < length bytes → AllBelow bytes count → digit Decimal (get_or bytes count 0) ≡ true
    → value ≡ digits_value 10 (take count bytes) → 100000000000000000 ≤ value → 18 < prefix_len (digit Decimal) bytes
value-long bytes count value inside below here worth long =
    let many : 18 ≤ count = long-value bytes count value (omega arith) below worth long in
    let n : ℕ = prefix_len (digit Decimal) bytes in
    ⊎_elim
    (λ (h : (nat_le n count ≡ true) × (n ≤ count)).
    absurd (true≢false (sym (digits-more bytes count below here n (omega (arith, h.1))) ∙ prefix_len_stops (digit Decimal) bytes 0 (omega (arith, h.1)))))
    (λ (h : (nat_le n count ≡ false) × (count < n)). omega (arith, h.1, many))
    (leb_tells n count)

-- a run of bytes that pass, and the byte behind it
run-split : (p : ℕ → Bool) (xs : List ℕ) (n : ℕ) → n ≡ prefix_len p xs → n < length xs
    → (xs ≡ take n xs ++ (get_or xs n 0 ∷ drop (n + 1) xs)) × (list_all p (take n xs) ≡ true) × (p (get_or xs n 0) ≡ false)
run-split p xs n e inside =
    let cut : drop n xs ≡ get_or xs n 0 ∷ drop (n + 1) xs = rw add-one (drop-cons xs n 0 inside) in
    let inside_too : prefix_len p xs < length xs = omega arith in (
      sym (take-append-drop n xs) ∙ ap (λ l. take n xs ++ l) cut,
      ap (λ m. list_all p (take m xs)) e ∙ ap (list_all p) (sym (front-is p xs)) ∙ front_all p xs,
      ap (λ m. p (get_or xs m 0)) e ∙ prefix_len_stops p xs 0 inside_too,
    )

no_separator : (c : ℕ) → digit Decimal c ≡ true → is_separator c ≡ false
no_separator c h = grind (arith, nat_tests)

-- digits are a run without separators
digits-none : (run : Text) → AreDigits run → list_any is_separator run ≡ false
digits-none [] all = refl
digits-none (c ∷ cs) all =
    let parts = and_parts (digit Decimal c) (list_all (digit Decimal) cs) all in
    rw (no_separator c parts.0) (digits-none cs parts.1)

digits-run : (run : Text) → AreDigits run → IsRun Decimal run
digits-run [] all = refl
digits-run (c ∷ cs) all =
    let parts = and_parts (digit Decimal c) (list_all (digit Decimal) cs) all in
    rw parts.0 (digits-run cs parts.1)

-- their value, where it is a number of 64 bits
digits-worth : (run : Text) (value : ℕ) → AreDigits run → value ≡ digits_value 10 run → value < 2 ^ 64 → Some value ≡ whole_value (DecimalRun run NoFraction NoExponent)
digits-worth run value all e small =
    let kept = all_kept run (digits-none run all) in
    let low : digits_value 10 run < 2 ^ 64 = rw e at small in
    let fits : nat_lt (digits_value 10 run) (2 ^ 128) ≡ true = wide _ low in
    rw (kept, fits, e) refl
  where
    wide : (n : ℕ) → n < 2 ^ 64 → nat_lt n (2 ^ 128) ≡ true
    wide n h = grind (arith, nat_tests)

no_point : (c : ℕ) → (c ≡ 46 → ⊥) → (c == 46) ≡ false
no_point c h = grind (arith, nat_tests)

-- a number without a point
pub whole-plain : (bytes : List ℕ) (count value : ℕ) → count ≡ prefix_len (digit Decimal) bytes → value ≡ digits_value 10 (take count bytes) → value < 2 ^ 64
    → is_legacy (take count bytes) ≡ false → (get_or bytes count 0 ≡ 46 → ⊥) → (count < length bytes) × (ends_number (get_or bytes count 0) ≡ true)
    → IsPlain bytes count (Some value)
whole-plain bytes count value e worth small unpadded other ends =
    let split = run-split (digit Decimal) bytes count e ends.0 in
    let run : Text = take count bytes in
    record {
      start = record {
        run = run;
        fraction = NoFraction;
        next = get_or bytes count 0;
        behind = drop (count + 1) bytes;
        splits = rw append-nil split.0;
        digits = split.1;
        unpadded = unpadded;
        tail_digits = refl;
        ends = ends.1;
        stops = rw (split.2, no_point (get_or bytes count 0) other) refl;
      };
      reaches = rw append-nil (sym (length-take-le count bytes (omega (arith, ends.0))));
      worth = digits-worth run value split.1 worth small;
    }

-- a slice up to the end
rest-whole : (bytes : List ℕ) (n : ℕ) → take (length bytes - n) (drop n bytes) ≡ drop n bytes
rest-whole bytes n = grind (arith, common_steps)

-- a number with a point
pub pointed-plain : (bytes : List ℕ) (count more end : ℕ) → count ≡ prefix_len (digit Decimal) bytes → is_legacy (take count bytes) ≡ false → count < length bytes
    → get_or bytes count 0 ≡ 46 → more ≡ prefix_len (digit Decimal) (take (length bytes - (count + 1)) (drop (count + 1) bytes)) → end ≡ count + 1 + more
    → (end < length bytes) × (ends_number (get_or bytes end 0) ≡ true) → IsPlain bytes end None
pointed-plain bytes count more end e unpadded inside point f sum ends =
    let split = run-split (digit Decimal) bytes count e inside in
    let tail : List ℕ = drop (count + 1) bytes in
    let within : more < length tail = omega (arith, length-drop (count + 1) bytes, ends.0) in
    let behind = run-split (digit Decimal) tail more (f ∙ ap (prefix_len (digit Decimal)) (rest-whole bytes (count + 1))) within in
    let run : Text = take count bytes in
    let digits : Text = take more tail in
    let next : get_or tail more 0 ≡ get_or bytes end 0 = get_or-drop (count + 1) bytes more 0 ∙ ap (λ (i : ℕ). get_or bytes i 0) (sym sum) in
    let parts : bytes ≡ run ++ (46 ∷ (digits ++ (get_or tail more 0 ∷ drop (more + 1) tail))) =
    split.0 ∙ ap (λ c. run ++ (c ∷ tail)) point ∙ ap (λ l. run ++ (46 ∷ l)) behind.0 in
    let long : length (run ++ (46 ∷ digits)) ≡ end =
    length-append run (46 ∷ digits) ∙ omega (arith, length-take-le count bytes (omega arith), length-take-le more tail (omega arith)) in
    record {
      start = record {
        run = run;
        fraction = Point digits;
        next = get_or tail more 0;
        behind = drop (more + 1) tail;
        splits = rw (append-nil digits, append_assoc) parts;
        digits = split.1;
        unpadded = unpadded;
        tail_digits = behind.1;
        ends = rw next ends.1;
        stops = behind.2;
      };
      reaches = rw append-nil (sym long);
      worth = refl;
    }

-- What the byte behind is not

pub ends-low : (c : ℕ) → ends_number c ≡ true → c < 128
ends-low c h = let low = (and_parts (nat_lt c 128) (not (is_ident_start c || c == 92)) h).0 in grind (arith, nat_tests)

starts-neither : (c : ℕ) → ends_number c ≡ true → (is_ident_start c ≡ false) × ((c == 92) ≡ false)
starts-neither c h = or_none (is_ident_start c) (c == 92) (not-true (is_ident_start c || c == 92) (and_parts (nat_lt c 128) (not (is_ident_start c || c == 92)) h).1)

starts-none : (c : ℕ) → ends_number c ≡ true → is_ident_start c ≡ false
starts-none c h = (starts-neither c h).0

digit-stops : (f : Fraction) (c : ℕ) → goes_on f c ≡ false → digit Decimal c ≡ false
digit-stops NoFraction c h = (or_none (digit Decimal c) (c == 46) h).0
digit-stops (Point run) c h = h

-- by both rules it may stand behind a number
may-follow : (rule : NumberRule) (big : Bool) (f : Fraction) (c : ℕ) → ends_number c ≡ true → goes_on f c ≡ false → may_not_follow rule big c ≡ false
may-follow Crate big f c ends stops = and_right (not big) (is_ident_start c) (starts-none c ends)
may-follow Standard big f c ends stops =
    let none = starts-neither c ends in
    rw (none.0, digit-stops f c stops) none.1

mark_starts : (c : ℕ) → is_ident_start c ≡ false → is_exponent_mark c ≡ false
unfolding is_ident_start
mark_starts c h = grind (arith, nat_tests)

n_starts : (c : ℕ) → is_ident_start c ≡ false → (c == 110) ≡ false
unfolding is_ident_start
n_starts c h = grind (arith, nat_tests)

separator_starts : (c : ℕ) → is_ident_start c ≡ false → is_separator c ≡ false
unfolding is_ident_start
separator_starts c h = grind (arith, nat_tests)

letter_starts : (c : ℕ) → is_ident_start c ≡ false → is_letter c ≡ false
unfolding is_ident_start
letter_starts c h = grind (arith, nat_tests)

run-stops : (f : Fraction) (c : ℕ) → goes_on f c ≡ false → is_ident_start c ≡ false → in_run Decimal c ≡ false
run-stops f c stops none = rw (digit-stops f c stops) (separator_starts c none)

-- The parts are read

behind-begins : (p : ℕ → Bool) (f : Fraction) (c : ℕ) (r : Text) → p 46 ≡ false → p c ≡ false → next_passes p (fraction_text f ++ (c ∷ r)) ≡ false
behind-begins p NoFraction c r dot here = here
behind-begins p (Point run) c r dot here = dot

fraction-read : (f : Fraction) (c : ℕ) (r : Text) → fraction_digits f ≡ true → goes_on f c ≡ false → in_run Decimal c ≡ false → fraction (fraction_text f ++ (c ∷ r)) ≡ f
fraction-read NoFraction c r all stops end = rw (or_none (digit Decimal c) (c == 46) stops).1
fraction-read (Point run) c r all stops end = ap Point (front_run (in_run Decimal) run (c ∷ r) (digits-run run all) end)

octal-none : (run : Text) → is_legacy run ≡ false → is_octal_run run ≡ false
octal-none run h = rw h refl

parts-read : (run : Text) (f : Fraction) (c : ℕ) (r : Text) → AreDigits run → is_legacy run ≡ false → fraction_digits f ≡ true → is_ident_start c ≡ false → goes_on f c ≡ false
    → number_parts (number_text (DecimalRun run f NoExponent) ++ (c ∷ r)) ≡ DecimalRun run f NoExponent
parts-read run f c r all unpadded tail none stops =
    let x : Text = c ∷ r in
    let end = run-stops f c stops none in
    let stop = behind-begins (in_run Decimal) f c r refl end in
    let letter = behind-begins is_letter f c r refl (letter_starts c none) in
    let no_n = behind-begins (is 110) f c r refl (n_starts c none) in
    rw (append_assoc run (fraction_text f ++ []) x, append_assoc (fraction_text f) [] x, number_decimal run (fraction_text f ++ x) (digits-run run all) stop letter)
    (rw (and_right (list_any (digit Decimal) run) (next_is 110 (fraction_text f ++ x)) no_n, octal-none run unpadded, fraction-read f c r tail stops end, drop_at (fraction_text f) x _ refl, mark_starts c none))

-- nothing is said of them

fraction-said : (n : ℕ) (f : Fraction) → fraction_digits f ≡ true → fraction_faults n f ≡ []
fraction-said n NoFraction all = refl
fraction-said n (Point run) all = rw (no_separators true Decimal false 0 run (digits-none run all)) refl

pub parts-said : (rule : NumberRule) (run : Text) (f : Fraction) → AreDigits run → is_legacy run ≡ false → fraction_digits f ≡ true → part_faults rule (DecimalRun run f NoExponent) ≡ []
parts-said rule run f all unpadded tail = rw (no_separators (may_hold_separators rule run) Decimal false 0 run (digits-none run all), unpadded, fraction-said (byte_len run) f tail) refl

octal-said : (ts1085 : Bool) (run : Text) (f : Fraction) → octal_faults ts1085 (DecimalRun run f NoExponent) ≡ []
octal-said true run f = refl
octal-said false run f = refl

-- the number, whatever follows the byte behind
number-read : (ts1085 : Bool) (rule : NumberRule) (run : Text) (f : Fraction) (c : ℕ) (r : Text) → AreDigits run → is_legacy run ≡ false → fraction_digits f ≡ true
    → ends_number c ≡ true → goes_on f c ≡ false
    → let n : Number = DecimalRun run f NoExponent in number ts1085 rule (number_text n ++ (c ∷ r)) ≡ found_number ts1085 rule n None
number-read ts1085 rule run f c r all unpadded tail ends stops =
    let n : Number = DecimalRun run f NoExponent in
    let text : Text = number_text n ++ (c ∷ r) in
    ap (λ m. found_number ts1085 rule m (refusal rule m (behind_number m text))) (parts-read run f c r all unpadded tail (starts-none c ends) stops)
    ∙ ap (λ l. found_number ts1085 rule n (refusal rule n l)) (drop_at (number_text n) (c ∷ r) _ refl)
    ∙ ap (found_number ts1085 rule n) (next_refusal_none rule n (c ∷ r) (may-follow rule false f c ends stops))

-- In the text at a cursor

abbrev pub plain_of : {bytes : List ℕ} {count : ℕ} {whole : Option ℕ} → IsPlain bytes count whole → Number
plain_of p = DecimalRun p.start.run p.start.fraction NoExponent

fraction-form : (f : Fraction) → fraction_digits f ≡ true → IsFraction f
fraction-form NoFraction all = tt
fraction-form (Point run) all = digits-run run all

plain-form : {bytes : List ℕ} {count : ℕ} {whole : Option ℕ} (p : IsPlain bytes count whole) → IsNumber (plain_of p)
plain-form p = (digits-run p.start.run p.start.digits, octal-none p.start.run p.start.unpadded, fraction-form p.start.fraction p.start.tail_digits, tt)

-- a text whose bytes begin with those of another begins with it
text-split : (a : Text) (bs : List ℕ) (cs : Text) → encode_utf8_all cs ≡ encode_utf8_all a ++ bs → (r : Text) × (cs ≡ a ++ r) × (encode_utf8_all r ≡ bs)
text-split [] bs cs e = (cs, refl, e)
text-split (x ∷ xs) bs cs e =
    let first = cons_from_encodes cs (encode_utf8_all xs ++ bs) x (e ∙ append_assoc (encode_utf8 x) (encode_utf8_all xs) bs) in
    let more = text-split xs bs first.0 first.2 in
    (more.0, first.1 ∙ ap (λ l. x ∷ l) more.1, more.2)

plain-split : {bytes : List ℕ} {count : ℕ} {whole : Option ℕ} (p : IsPlain bytes count whole) (cs : Text) → bytes ≡ encode_utf8_all cs
    → (r : Text) × (cs ≡ number_text (plain_of p) ++ (p.start.next ∷ r))
plain-split p cs e =
    let text = number_text (plain_of p) in
    let ascii = number-bytes (plain_of p) (plain-form p) in
    let cut = text-split text (p.start.next ∷ p.start.behind) cs (sym e ∙ p.start.splits ∙ ap (λ l. l ++ (p.start.next ∷ p.start.behind)) (sym ascii)) in
    let last = cons_from_encodes cut.0 p.start.behind p.start.next (cut.2 ∙ ap (λ l. l ++ p.start.behind) (sym (encode_ascii p.start.next (ends-low p.start.next p.start.ends)))) in
    (last.0, cut.1 ∙ ap (λ l. text ++ l) last.1)

-- what the grammar finds there
pub plain-number : {bytes : List ℕ} {count : ℕ} {whole : Option ℕ} (p : IsPlain bytes count whole) (cs : Text) (ts1085 : Bool) (rule : NumberRule) → bytes ≡ encode_utf8_all cs
    → number ts1085 rule cs ≡ found_number ts1085 rule (plain_of p) None
plain-number p cs ts1085 rule e =
    let cut = plain-split p cs e in
    ap (number ts1085 rule) cut.1 ∙ number-read ts1085 rule p.start.run p.start.fraction p.start.next cut.0 p.start.digits p.start.unpadded p.start.tail_digits p.start.ends p.start.stops

pub plain-front : {bytes : List ℕ} {count : ℕ} {whole : Option ℕ} (p : IsPlain bytes count whole) (cs : Text) → bytes ≡ encode_utf8_all cs
    → take (length (number_text (plain_of p))) cs ≡ number_text (plain_of p)
plain-front p cs e =
    let cut = plain-split p cs e in
    front-taken (number_text (plain_of p)) (p.start.next ∷ cut.0) cs (sym cut.1)

pub plain-within : {bytes : List ℕ} {count : ℕ} {whole : Option ℕ} (p : IsPlain bytes count whole) (cs : Text) → bytes ≡ encode_utf8_all cs
    → count_within count cs ≡ length (number_text (plain_of p))
plain-within p cs e =
    let n : Number = plain_of p in
    let cut = plain-split p cs e in
    let fits : length (number_text n) ≤ length cs = omega (arith, ap length cut.1, length-append (number_text n) (p.start.next ∷ cut.0)) in
    let bytes : byte_len (take (length (number_text n)) cs) ≡ _ = ap byte_len (plain-front p cs e) ∙ number-length n (plain-form p) ∙ sym p.reaches in
    ap (λ (k : ℕ). count_within k cs) (sym bytes) ∙ count_within-byte_len cs (length (number_text n)) fits

pub plain-moved : {bytes : List ℕ} {count : ℕ} {whole : Option ℕ} (p : IsPlain bytes count whole) (old now : Cursor) → bytes ≡ encode_utf8_all (rest old)
    → now ≡ passed (count_within count (rest old)) old → now ≡ passed (length (number_text (plain_of p))) old
plain-moved p old now e moved = moved ∙ ap (λ (k : ℕ). passed k old) (plain-within p (rest old) e)

pub plain-place : {bytes : List ℕ} {count : ℕ} {whole : Option ℕ} (p : IsPlain bytes count whole) (old : Cursor) → bytes ≡ encode_utf8_all (rest old) → HasPlace old (place old + count)
plain-place p old e =
    let n : Number = plain_of p in
    let long : byte_len (take (length (number_text n)) (rest old)) ≡ _ = ap byte_len (plain-front p (rest old) e) ∙ number-length n (plain-form p) ∙ sym p.reaches in
    (old.at + length (number_text n), ap (λ (k : ℕ). place old + k) (sym long) ∙ sym (place-passed old (passed (length (number_text n)) old) (length (number_text n)) refl))

no_separator_in : (f : Fraction) → fraction_digits f ≡ true → list_any is_separator (fraction_text f ++ []) ≡ false
no_separator_in NoFraction all = refl
no_separator_in (Point run) all = ap (list_any is_separator) (append-nil run) ∙ digits-none run all

-- the token of these bytes
pub plain-token : {bytes : List ℕ} {count : ℕ} {whole : Option ℕ} (p : IsPlain bytes count whole) (raw digits : AtomView) → raw ≡ raw_atom (plain_of p) → digits ≡ raw_atom (plain_of p)
    → plain_token (Num raw Decimal digits whole) ≡ number_token (plain_of p)
plain-token p raw digits e f =
    let n : Number = plain_of p in
    let none : list_any is_separator (number_text n) ≡ false = list_any-append is_separator p.start.run (fraction_text p.start.fraction ++ []) ∙ rw (digits-none p.start.run p.start.digits) (no_separator_in p.start.fraction p.start.tail_digits) in
    let same : digits_atom (number_text n) ≡ raw_atom n = rw none refl in
    small-token n raw digits Decimal _ refl e refl (f ∙ sym same) p.worth

-- what a reader shows of it
pub plain-found : {bytes : List ℕ} {count : ℕ} {whole : Option ℕ} (p : IsPlain bytes count whole) (start : ℕ) (ts1085 : Bool) (rule : NumberRule) (token : TokenView) (extent : Span)
    → token ≡ number_token (plain_of p) → extent ≡ span_of start (start + byte_len (number_text (plain_of p)))
    → found_at token_behind start (found_number ts1085 rule (plain_of p) None) ≡ seen (Ok token) [] extent
plain-found p start ts1085 rule token extent e f =
    let n : Number = plain_of p in
    let parts : [] ≡ map (fault_behind start) (part_faults rule n) = ap (map (fault_behind start)) (sym (parts-said rule p.start.run p.start.fraction p.start.digits p.start.unpadded p.start.tail_digits)) in
    let octals : [] ≡ [] ++ map (fault_behind start) (octal_faults ts1085 n) = ap (map (fault_behind start)) (sym (octal-said ts1085 p.start.run p.start.fraction)) in
    sym (accepted-found start ts1085 rule n None token [] [] extent refl e parts octals f)

-- Each plain number is answered

shape : (bytes : List ℕ) (q : StartsPlain bytes) → bytes ≡ q.run ++ (fraction_text q.fraction ++ (q.next ∷ q.behind))
shape bytes q =
    q.splits ∙ append_assoc q.run (fraction_text q.fraction ++ []) (q.next ∷ q.behind) ∙ ap (λ l. q.run ++ l) (append_assoc (fraction_text q.fraction) [] (q.next ∷ q.behind))

run-length : (run tail : Text) → AreDigits run → next_passes (digit Decimal) tail ≡ false → prefix_len (digit Decimal) (run ++ tail) ≡ length run
run-length run tail all stop =
    sym (length-take_while (digit Decimal) (run ++ tail)) ∙ ap length (sym (front-is (digit Decimal) (run ++ tail)) ∙ front_run (digit Decimal) run tail all stop)

start-length : (bytes : List ℕ) (q : StartsPlain bytes) (count : ℕ) → count ≡ prefix_len (digit Decimal) bytes → count ≡ length q.run
start-length bytes q count e =
    e ∙ ap (prefix_len (digit Decimal)) (shape bytes q)
    ∙ run-length q.run _ q.digits (behind-begins (digit Decimal) q.fraction q.next q.behind refl (digit-stops q.fraction q.next q.stops))

start-behind : (bytes : List ℕ) (q : StartsPlain bytes) (count : ℕ) → count ≡ prefix_len (digit Decimal) bytes → drop count bytes ≡ fraction_text q.fraction ++ (q.next ∷ q.behind)
start-behind bytes q count e = ap (drop count) (shape bytes q) ∙ drop_at q.run _ count (sym (start-length bytes q count e))

pub not-long : (bytes : List ℕ) (q : StartsPlain bytes) → length q.run ≤ 18 → 18 < prefix_len (digit Decimal) bytes → ⊥
not-long bytes q short long = let same = start-length bytes q _ refl in omega arith

some_text : (f : Fraction) (c : ℕ) (cs : Text) → 0 < length (fraction_text f ++ (c ∷ cs))
some_text NoFraction c cs = omega arith
some_text (Point run) c cs = omega arith

pub not-ended : (bytes : List ℕ) (q : StartsPlain bytes) (count : ℕ) → count ≡ prefix_len (digit Decimal) bytes → count ≡ length bytes → ⊥
not-ended bytes q count e all =
    let left = ap length (start-behind bytes q count e) in
    omega (arith, left, length-drop count bytes, some_text q.fraction q.next q.behind)

pub not-padded : (bytes : List ℕ) (q : StartsPlain bytes) (count : ℕ) → count ≡ prefix_len (digit Decimal) bytes → is_legacy (take count bytes) ≡ true → ⊥
not-padded bytes q count e padded =
    let front : take count bytes ≡ q.run = ap (take count) (shape bytes q) ∙ take_at q.run _ count (sym (start-length bytes q count e)) in
    true≢false (sym padded ∙ ap is_legacy front ∙ q.unpadded)

next_whole : (f : Fraction) (c : ℕ) (cs xs : Text) → xs ≡ fraction_text f ++ (c ∷ cs) → (get_or xs 0 0 ≡ 46 → ⊥) → get_or xs 0 0 ≡ c
next_whole NoFraction c cs xs e other = ap (λ l. get_or l 0 0) e
next_whole (Point run) c cs xs e other = absurd (other (ap (λ l. get_or l 0 0) e))

first-left : (bytes : List ℕ) (count : ℕ) → get_or (drop count bytes) 0 0 ≡ get_or bytes count 0
first-left bytes count = get_or-drop count bytes 0 0 ∙ ap (λ (i : ℕ). get_or bytes i 0) (add-zero count)

-- without a point
pub whole-ends : (bytes : List ℕ) (q : StartsPlain bytes) (count : ℕ) → count ≡ prefix_len (digit Decimal) bytes → (get_or bytes count 0 ≡ 46 → ⊥)
    → (count < length bytes) × (ends_number (get_or bytes count 0) ≡ true)
whole-ends bytes q count e other =
    let left = start-behind bytes q count e in
    let first = first-left bytes count in
    let next = next_whole q.fraction q.next q.behind _ left (λ point. other (sym first ∙ point)) in
    (omega (arith, ap length left, length-drop count bytes, some_text q.fraction q.next q.behind), ap ends_number (sym first ∙ next) ∙ q.ends)

pointed_tail : (f : Fraction) (c : ℕ) (cs xs : Text) → xs ≡ fraction_text f ++ (c ∷ cs) → get_or xs 0 0 ≡ 46 → fraction_digits f ≡ true → goes_on f c ≡ false
    → (digits : Text) × AreDigits digits × (digit Decimal c ≡ false) × (drop 1 xs ≡ digits ++ (c ∷ cs))
pointed_tail NoFraction c cs xs e point all stops =
    let same : 46 ≡ c = sym point ∙ ap (λ l. get_or l 0 0) e in
    let stop = (or_none (digit Decimal c) (c == 46) stops).1 in
    let none = rw (← same) at stop in
    cc
pointed_tail (Point run) c cs xs e point all stops = (run, all, stops, ap (drop 1) e)

-- with a point
pub pointed-ends : (bytes : List ℕ) (q : StartsPlain bytes) (count more end : ℕ) → count ≡ prefix_len (digit Decimal) bytes → get_or bytes count 0 ≡ 46
    → more ≡ prefix_len (digit Decimal) (take (length bytes - (count + 1)) (drop (count + 1) bytes)) → end ≡ count + 1 + more
    → (end < length bytes) × (ends_number (get_or bytes end 0) ≡ true)
pointed-ends bytes q count more end e point f sum =
    let left = start-behind bytes q count e in
    let tail = pointed_tail q.fraction q.next q.behind _ left (first-left bytes count ∙ point) q.tail_digits q.stops in
    let behind : drop (count + 1) bytes ≡ tail.0 ++ (q.next ∷ q.behind) = sym (drop-drop 1 count bytes) ∙ tail.3 in
    let long : more ≡ length tail.0 = f ∙ ap (prefix_len (digit Decimal)) (rest-whole bytes (count + 1) ∙ behind) ∙ run-length tail.0 (q.next ∷ q.behind) tail.1 tail.2 in
    let last : drop end bytes ≡ q.next ∷ q.behind = ap (λ k. drop k bytes) sum ∙ sym (drop-drop more (count + 1) bytes) ∙ ap (drop more) behind ∙ drop_at tail.0 (q.next ∷ q.behind) more (sym long) in
    (omega (arith, ap length last, length-drop end bytes), ap ends_number (sym (first-left bytes end) ∙ ap (λ l. get_or l 0 0) last) ∙ q.ends)

pub start-encoded : (cs : Text) (q : StartsPlain cs) → let n : Number = DecimalRun q.run q.fraction NoExponent in encode_utf8_all (number_text n ++ (q.next ∷ q.behind)) ≡ number_text n ++ (q.next ∷ encode_utf8_all q.behind)
start-encoded cs q =
    let n : Number = DecimalRun q.run q.fraction NoExponent in
    let form : IsNumber n = (digits-run q.run q.digits, octal-none q.run q.unpadded, fraction-form q.fraction q.tail_digits, tt) in
    encodes-append (number_text n) (q.next ∷ q.behind) ∙ ap (λ l. l ++ encode_utf8_all (q.next ∷ q.behind)) (number-bytes n form)
    ∙ ap (λ l. number_text n ++ (l ++ encode_utf8_all q.behind)) (encode_ascii q.next (ends-low q.next q.ends))

-- the bytes of a text that begins with a plain number
abbrev pub start-bytes : (bytes : List ℕ) (cs : Text) → bytes ≡ encode_utf8_all cs → StartsPlain cs → StartsPlain bytes
start-bytes bytes cs e q = record {
  run = q.run;
  fraction = q.fraction;
  next = q.next;
  behind = encode_utf8_all q.behind;
  splits = e ∙ ap encode_utf8_all q.splits ∙ start-encoded cs q;
  digits = q.digits;
  unpadded = q.unpadded;
  tail_digits = q.tail_digits;
  ends = q.ends;
  stops = q.stops;
}
