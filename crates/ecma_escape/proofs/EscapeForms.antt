-- What is answered of the parts of an escape, and how long each is.
use Rattle.std.proofs.Common.{◌≡◌, ℕ, ◌+◌, ◌-◌, ◌<◌, ◌≤◌, Bool, true, false, cond, not, ◌&&◌, ◌==◌, ◌^◌, ◌*◌, [], ◌∷◌, ◌++◌, length, length-append, take, drop, Some, None, slice_get, refl, sym, ap, ◌∙◌, arith, suc, nat_lt, ◌≢◌, eq-eqb, eqb-true, Result, Ok, Err}
use Rattle.std.proofs.lemmas.Bool.{ne_eqb}
use Rattle.std.proofs.lemmas.Bool.Decides.{nat_tests}
use Rattle.std.proofs.lemmas.Int.Digits.{digits_value-lt}
use Rattle.std.specs.Prelude.{codes, IsTrue, IsOk, ◌↔◌}
use Rattle.std.specs.Char.{digit_value}
use Rattle.std.specs.Str.Parse.{AllDigits, ParsesUnsigned, digits_value}
use Rattle.ecma_place.specs.Character.{is_line_terminator}
use Rattle.ecma_place.specs.Text.{Text}
use Rattle.ecma_place.specs.Cursor.{Cursor, rest, passed}
use Rattle.ecma_place.proofs.RunLemmas.{first-cons, passed-later-by}
use Rattle.ecma_escape.specs.declared.escape.Meaning.{Meaning}
use Rattle.ecma_escape.specs.declared.escape.Meaning.TheVariants as answer
use Rattle.ecma_escape.specs.declared.escape.Refusal.TheVariants as because
use Rattle.ecma_grammar.specs.Found.{error_over}
use Rattle.ecma_grammar.specs.Fronts.{next_is, after}
use Rattle.ecma_grammar.specs.Escapes.{Use, Escape, Refused, two_digits_wanted, four_digits_wanted, code_point_wanted, escape_spelling, is_surrogate, hex_escape, code_escape, four_escape, braced_escape, unicode_refusal, unicode_escape, out_of_range, no_brace, escape_of, escape_behind, lead, HexLetter, OctalDigit, LineEnd, Single, InWord, hex_front, is_hex_digit, is_octal_digit, octal_digits, octal_front, line_end}
use Rattle.ecma_token.specs.View.{plain_kind}
use Rattle.ecma_token.specs.declared.error.SyntaxError.{ExpectedUnicodeEscape, InvalidStrEscape}
use Rattle.ecma_escape.specs.declared.escape.Use.{Use as Place}
use Rattle.ecma_escape.specs.declared.escape.Use.TheVariants as place
use Rattle.ecma_grammar.specs.Found.{error_at}
use Rattle.ecma_escape.specs.EscapeMeanings.{answered, refusal_error, use_of, is_word, digit_front}
use Rattle.ecma_escape.proofs.EscapeReading.{parsed-ok, parsed-err}
use Rattle.ecma_grammar.proofs.Fronts.{after_drop}
use Rattle.ecma_grammar.proofs.SignLemmas.{rest-behind}

-- an escape that is answered so, and n characters long
abbrev pub Means : Use → Meaning → ℕ → Escape → Type 0
Means within a n e = (answered within (escape_spelling e) a ≡ e) × (length (escape_spelling e) ≡ n)

abbrev pub StandsFor : Meaning → ℕ → Type 0
StandsFor a code = (within : Use) (spelling : Text) → answered within spelling a ≡ code_escape within spelling code

-- a cursor that went past all but the first k characters
pub moved-less : (old now : Cursor) (m n k : ℕ) → now ≡ passed m old → n ≡ k + m → now ≡ passed (n - k) old
moved-less old now m n k moved e =
    let same : m ≡ n - k = omega arith in
    moved ∙ ap (λ i. passed i old) same

code_spelling : (within : Use) (spelling : Text) (code : ℕ) → escape_spelling (code_escape within spelling code) ≡ spelling
code_spelling within spelling code = go (is_surrogate code) refl
  where
    go : (b : Bool) → is_surrogate code ≡ b → escape_spelling (code_escape within spelling code) ≡ spelling
    go true e = rw e refl
    go false e = rw e refl

code_answers : (within : Use) (spelling : Text) (code : ℕ) (a : Meaning) → StandsFor a code → Means within a (length spelling) (code_escape within spelling code)
code_answers within spelling code a h = (rw (code_spelling within spelling code) (h within spelling), ap length (code_spelling within spelling code))

-- the same of another escape, and of another length
as_other : (within : Use) (a : Meaning) (m n : ℕ) (e f : Escape) → e ≡ f → m ≡ n → Means within a m e → Means within a n f
as_other within a m n e f same size h = rw (← same, ← size) h

two_more : (n : ℕ) → suc (suc n) ≡ 2 + n
two_more n = omega arith

three_more : (n : ℕ) → suc (suc (suc n)) ≡ 3 + n
three_more n = omega arith

-- Two digits

pub hex_accepts : (within : Use) (ds : Text) (v : ℕ) → length ds ≡ 2 → v ≡ digits_value 16 ds → Means within (answer.Character v) (2 + length ds) (hex_escape ds)
hex_accepts within ds v e is =
    let two : (length ds == 2) ≡ true = eq-eqb (length ds) 2 e in
    rw (two, is) (refl, two_more (length ds))

pub hex_refuses : (within : Use) (ds : Text) → length ds ≢ 2 → Means within (answer.Refused because.TwoDigits) (2 + length ds) (hex_escape ds)
hex_refuses within ds not =
    let two : (length ds == 2) ≡ false = ne_eqb (length ds) 2 not in
    let s : Text = codes "\\x" ++ ds in
    rw two (ap (λ n. Refused s (error_over two_digits_wanted n)) (two_more (length ds)), two_more (length ds))

-- Four digits

pub four_accepts : (within : Use) (ds : Text) (code : ℕ) (a : Meaning) → length ds ≡ 4 → code ≡ digits_value 16 ds → StandsFor a code → Means within a (2 + length ds) (four_escape within ds)
four_accepts within ds code a e is h =
    let four : (length ds == 4) ≡ true = eq-eqb (length ds) 4 e in
    let found = code_answers within (codes "\\u" ++ ds) code a h in
    rw (four, ← is) (found.0, found.1 ∙ two_more (length ds))

pub four_refuses : (within : Use) (ds : Text) → length ds ≢ 4 → Means within (answer.Refused because.FourDigits) (2 + length ds) (four_escape within ds)
four_refuses within ds not =
    let four : (length ds == 4) ≡ false = ne_eqb (length ds) 4 not in
    let s : Text = codes "\\u" ++ ds in
    rw four (ap (λ n. Refused s (unicode_refusal within four_digits_wanted n n)) (two_more (length ds)), two_more (length ds))

-- so many digits have a value that fits
pub short_value : (k n : ℕ) (ds : Text) → AllDigits 16 ds → length ds ≡ n → 16 ^ n ≤ 2 ^ k → digits_value 16 ds < 2 ^ k
short_value k n ds all e l =
    let below : digits_value 16 ds < 16 ^ n = rw e at (digits_value-lt 16 ds all) in
    omega arith

-- Braces

pub braced_none : (within : Use) (ds cs : Text) → ds ≡ [] → Means within (answer.Refused because.NoDigits) (3 + length ds) (braced_escape within ds cs)
braced_none within ds cs e = rw e (refl, refl)

pub braced_out : (within : Use) (ds cs : Text) → 0 < length ds → nat_lt 0x10_FFFF (digits_value 16 ds) ≡ true
    → Means within (answer.Refused because.OutOfRange) (3 + length ds) (braced_escape within ds cs)
braced_out within [] cs some e = absurd (omega arith)
braced_out within (d ∷ ds) cs some e =
    let s : Text = codes "\\u{" ++ (d ∷ ds) in
    rw e (ap (λ n. Refused s (unicode_refusal within code_point_wanted n n)) (three_more (length (d ∷ ds))), three_more (length (d ∷ ds)))

pub braced_open : (within : Use) (ds cs : Text) → 0 < length ds → nat_lt 0x10_FFFF (digits_value 16 ds) ≡ false → next_is 125 cs ≡ false
    → Means within (answer.Refused because.NoBrace) (3 + length ds) (braced_escape within ds cs)
braced_open within [] cs some e n = absurd (omega arith)
braced_open within (d ∷ ds) cs some e n =
    let s : Text = codes "\\u{" ++ (d ∷ ds) in
    rw (e, n) (ap (λ n. Refused s (refusal_error within because.NoBrace n)) (three_more (length (d ∷ ds))), three_more (length (d ∷ ds)))

pub braced_code : (within : Use) (ds cs : Text) (code : ℕ) (a : Meaning) → 0 < length ds → nat_lt 0x10_FFFF (digits_value 16 ds) ≡ false → next_is 125 cs ≡ true
    → code ≡ digits_value 16 ds → StandsFor a code → Means within a (3 + (length ds + 1)) (braced_escape within ds cs)
braced_code within [] cs code a some e n is h = absurd (omega arith)
braced_code within (d ∷ ds) cs code a some e n is h =
    let found = code_answers within (codes "\\u{" ++ ((d ∷ ds) ++ codes "}")) code a h in
    let size : length ((d ∷ ds) ++ codes "}") ≡ length (d ∷ ds) + 1 = length-append (d ∷ ds) (codes "}") in
    rw (e, n, ← is) (found.0, found.1 ∙ three_more (length ((d ∷ ds) ++ codes "}")) ∙ ap (λ n. 3 + n) size)

pub point-some : (v code : ℕ) → Some code ≡ cond (nat_lt 0x10_FFFF v) None (Some v) → (nat_lt 0x10_FFFF v ≡ false) × (code ≡ v)
point-some v code e = go (nat_lt 0x10_FFFF v) e
  where
    go : (b : Bool) → Some code ≡ cond b None (Some v) → (b ≡ false) × (code ≡ v)
    go true e = cc
    go false e = (refl, let same : code ≡ v = cc in same)

pub point-none : (v : ℕ) → None ≡ cond (nat_lt 0x10_FFFF v) None (Some v) → nat_lt 0x10_FFFF v ≡ true
point-none v e = go (nat_lt 0x10_FFFF v) e
  where
    go : (b : Bool) → None ≡ cond b None (Some v) → b ≡ true
    go true e = refl
    go false e = cc

-- What follows a character, where it is passed

pub eaten-is : (b : Bool) (x : ℕ) (text : Text) → (IsTrue b ↔ (slice_get text 0 ≡ Some x)) → b ≡ next_is x text
eaten-is true x [] h = let e = h.0 refl in cc
eaten-is false x [] h = refl
eaten-is true x (c ∷ cs) h =
    let e = h.0 refl in
    let same : c ≡ x = cc in
    sym (eq-eqb c x same)
eaten-is false x (c ∷ cs) h = sym (ne_eqb c x (λ same. let e : false ≡ true = h.1 (ap (λ y. Some y) same) in cc))

pub hex-rest : (old now : Cursor) → now ≡ passed (length (hex_front (rest old))) old → rest now ≡ after is_hex_digit (rest old)
hex-rest old now e = rest-behind old now _ e ∙ sym (after_drop is_hex_digit (rest old))

pub passed-both : (old one two : Cursor) (m n k : ℕ) → one ≡ passed m old → two ≡ passed n one → k ≡ m + n → two ≡ passed k old
passed-both old one two m n k first more sum = more ∙ ap (passed n) first ∙ sym (passed-later-by old k n m sum)

pub line_end-size : (c : ℕ) (cs : Text) (b : Bool) → (c == 13) ≡ true → b ≡ next_is 10 cs → length (line_end c cs) ≡ cond b 2 1
line_end-size c cs b e is = rw (e, is) (go (next_is 10 cs))
  where
    go : (x : Bool) → length (cond (true && x) (codes "\r\n") (c ∷ [])) ≡ cond x 2 1
    go true = refl
    go false = refl

-- Octal digits

abbrev cut : Text → Text
cut o = cond (nat_lt (digits_value 8 (take 3 o)) 256) (take 3 o) (take 2 o)

three_low : (x y z : ℕ) → x ≤ 3 → y < 8 → z < 8 → ((0 * 8 + x) * 8 + y) * 8 + z < 256
three_low x y z a b c = omega arith

three_high : (x y z : ℕ) → 4 ≤ x → 256 ≤ ((0 * 8 + x) * 8 + y) * 8 + z
three_high x y z a = omega arith

two_low : (x y : ℕ) → x < 8 → y < 8 → (0 * 8 + x) * 8 + y < 256
two_low x y a b = omega arith

one_low : (x : ℕ) → x < 8 → 0 * 8 + x < 256
one_low x a = omega arith

lt_true : (m n : ℕ) → m < n → nat_lt m n ≡ true
lt_true m n h = grind (arith, nat_tests)

lt_false : (m n : ℕ) → n ≤ m → nat_lt m n ≡ false
lt_false m n h = grind (arith, nat_tests)

low_value : (d : ℕ) (ds : Text) → AllDigits 8 (d ∷ ds) → digit_value d ≤ 3 → digits_value 8 (take 3 (d ∷ ds)) < 256
low_value d [] all l = one_low (digit_value d) all.0
low_value d (e ∷ []) all l = two_low (digit_value d) (digit_value e) all.0 all.1.0
low_value d (e ∷ (f ∷ fs)) all l = three_low (digit_value d) (digit_value e) (digit_value f) l all.1.0 all.1.1.0

low_cut : (d : ℕ) (ds : Text) → AllDigits 8 (d ∷ ds) → digit_value d ≤ 3 → take 3 (d ∷ ds) ≡ cut (d ∷ ds)
low_cut d ds all l = rw (lt_true _ _ (low_value d ds all l)) refl

either_way : (b : Bool) (t : Text) → t ≡ cond b t t
either_way true t = refl
either_way false t = refl

high_cut : (d : ℕ) (ds : Text) → AllDigits 8 (d ∷ ds) → 4 ≤ digit_value d → take 2 (d ∷ ds) ≡ cut (d ∷ ds)
high_cut d [] all h = either_way _ (d ∷ [])
high_cut d (e ∷ []) all h = either_way _ (d ∷ (e ∷ []))
high_cut d (e ∷ (f ∷ fs)) all h = rw (lt_false _ _ (three_high (digit_value d) (digit_value e) (digit_value f) h)) refl

high_value : (d : ℕ) (ds : Text) → AllDigits 8 (d ∷ ds) → digits_value 8 (take 2 (d ∷ ds)) < 256
high_value d [] all = one_low (digit_value d) all.0
high_value d (e ∷ es) all = two_low (digit_value d) (digit_value e) all.0 all.1.0

octal_digits-all : (text : Text) → AllDigits 8 (octal_front text)
octal_digits-all [] = tt
octal_digits-all (c ∷ cs) = go (is_octal_digit c) refl (octal_digits-all cs)
  where
    go : (b : Bool) → is_octal_digit c ≡ b → AllDigits 8 (octal_front cs) → AllDigits 8 (cond b (c ∷ octal_front cs) [])
    go true e more = (grind (arith, nat_tests), more)
    go false e more = tt

octal-first : (text : Text) (c : ℕ) → slice_get text 0 ≡ Some c → is_octal_digit c ≡ true → octal_front text ≡ c ∷ octal_front (drop 1 text)
octal-first text c e t = ap octal_front (first-cons text c e) ∙ (rw t refl)

first_low : (c : ℕ) → is_octal_digit c ≡ true → c ≤ 51 → digit_value c ≤ 3
first_low c t l = grind (arith, nat_tests)

first_high : (c : ℕ) → is_octal_digit c ≡ true → 51 < c → 4 ≤ digit_value c
first_high c t l = grind (arith, nat_tests)

-- the digits that are read, their value and how many
pub octal-low : (text : Text) (c n : ℕ) → slice_get text 0 ≡ Some c → is_octal_digit c ≡ true → c ≤ 51 → n ≡ 3
    → (take n (octal_front text) ≡ octal_digits text) × (digits_value 8 (take n (octal_front text)) < 256) × (0 < length (take n (octal_front text)))
octal-low text c n e t l is =
    let o = octal-first text c e t in
    let ds = octal_front (drop 1 text) in
    let all : AllDigits 8 (c ∷ ds) = rw o at (octal_digits-all text) in
    rw (is, o) (low_cut c ds all (first_low c t l), low_value c ds all (first_low c t l), omega arith)

pub octal-high : (text : Text) (c n : ℕ) → slice_get text 0 ≡ Some c → is_octal_digit c ≡ true → 51 < c → n ≡ 2
    → (take n (octal_front text) ≡ octal_digits text) × (digits_value 8 (take n (octal_front text)) < 256) × (0 < length (take n (octal_front text)))
octal-high text c n e t l is =
    let o = octal-first text c e t in
    let ds = octal_front (drop 1 text) in
    let all : AllDigits 8 (c ∷ ds) = rw o at (octal_digits-all text) in
    rw (is, o) (high_cut c ds all (first_high c t l), high_value c ds all, omega arith)

pub line_end-moved : (old one two : Cursor) (c : ℕ) (ate : Bool) → one ≡ passed 1 old → (c == 13) ≡ true → ate ≡ next_is 10 (rest one) → two ≡ cond ate (passed 1 one) one
    → two ≡ passed (length (line_end c (drop 1 (rest old)))) old
line_end-moved old one two c ate first e is moved =
    let behind = is ∙ ap (next_is 10) (rest-behind old one 1 first) in
    let size = line_end-size c (drop 1 (rest old)) ate e behind in
    rw size (go ate moved)
  where
    go : (b : Bool) → two ≡ cond b (passed 1 one) one → two ≡ passed (cond b 2 1) old
    go true m = passed-both old one two 1 1 2 first m (omega arith)
    go false m = m ∙ first

pub parsed_is-ok : {E : Type 0} (k radix : ℕ) (ds : Text) (r : Result ℕ E) → radix ≤ 36 → AllDigits radix ds → ParsesUnsigned k radix ds r → 0 < length ds → digits_value radix ds < 2 ^ k → IsOk r
parsed_is-ok k radix ds (Ok x) l all parsed some below = refl
parsed_is-ok k radix ds (Err e) l all parsed some below = absurd (parsed-err k radix ds l all parsed some below)

pub parsed_is-value : {E : Type 0} (k radix : ℕ) (ds : Text) (r : Result ℕ E) (x : ℕ) → radix ≤ 36 → AllDigits radix ds → ParsesUnsigned k radix ds r → r ≡ Ok x → x ≡ digits_value radix ds
parsed_is-value k radix ds r x l all parsed e = parsed-ok k radix x ds l all (rw e at parsed)

-- From one part of an escape to the next

pub onward : (old one two : Cursor) (part whole : Escape) (k : ℕ) → part ≡ whole → one ≡ passed 1 old → two ≡ passed (length (escape_spelling part) - (1 + k)) one
    → 1 + k ≤ length (escape_spelling part) → two ≡ passed (length (escape_spelling whole) - k) old
onward old one two part whole k same first more long =
    let size = ap (λ e. length (escape_spelling e)) same in
    passed-both old one two 1 _ _ first more (omega arith)

pub onward-all : (old one two : Cursor) (part whole : Escape) → part ≡ whole → one ≡ passed 1 old → two ≡ passed (length (escape_spelling part) - 1) one
    → 1 ≤ length (escape_spelling part) → two ≡ passed (length (escape_spelling whole)) old
onward-all old one two part whole same first more long =
    let size = ap (λ e. length (escape_spelling e)) same in
    passed-both old one two 1 _ _ first more (omega arith)

pub answers-whole : (within : Use) (a : Meaning) (part whole : Escape) → part ≡ whole → answered within (escape_spelling part) a ≡ part → answered within (escape_spelling whole) a ≡ whole
answers-whole within a part whole same h = rw (← same) h

pub braced_long : (within : Use) (ds cs : Text) → 3 ≤ length (escape_spelling (braced_escape within ds cs))
braced_long within [] cs = omega arith
braced_long within (d ∷ ds) cs = go (nat_lt 0x10_FFFF (digits_value 16 (d ∷ ds))) (next_is 125 cs)
  where
    go : (x y : Bool) → 3 ≤ length (escape_spelling (cond x (out_of_range within (d ∷ ds)) (cond y (code_escape within (codes "\\u{" ++ ((d ∷ ds) ++ codes "}")) (digits_value 16 (d ∷ ds))) (no_brace within (d ∷ ds)))))
    go true y = omega arith
    go false true = rw (code_spelling within (codes "\\u{" ++ ((d ∷ ds) ++ codes "}")) (digits_value 16 (d ∷ ds))) (omega arith)
    go false false = omega arith

pub unicode-braced : (within : Use) (text behind : Text) → next_is 123 text ≡ true → behind ≡ drop 1 text → braced_escape within (hex_front behind) (after is_hex_digit behind) ≡ unicode_escape within text
unicode-braced within text behind e is = rw (e, is) refl

pub unicode-four : (within : Use) (text : Text) → next_is 123 text ≡ false → four_escape within (digit_front 16 4 text) ≡ unicode_escape within text
unicode-four within text e = rw e refl

pub hex-of : (w : Place) (c : ℕ) (cs behind : Text) → is_word w ≡ false → c ≡ 120 → behind ≡ cs → hex_escape (digit_front 16 2 behind) ≡ escape_of (use_of w) (lead c) c cs
hex-of place.InString c cs behind e h is = rw (h, is) refl
hex-of place.InTemplate c cs behind e h is = rw (h, is) refl
hex-of place.InWord c cs behind e h is = cc

pub at-letter : (within : Use) (text behind : Text) → next_is 117 text ≡ true → behind ≡ drop 1 text → unicode_escape within behind ≡ escape_behind within text
at-letter within [] behind e is = cc
at-letter within (c ∷ cs) behind e is =
    rw (is, eqb-true c 117 e) refl

pub at-other : (within : Use) (text : Text) (c : ℕ) → slice_get text 0 ≡ Some c → escape_of within (lead c) c (drop 1 text) ≡ escape_behind within text
at-other within [] c e = cc
at-other within (d ∷ cs) c e =
    let same : d ≡ c = cc in
    rw same refl

pub at-end : (w : Place) (text : Text) → slice_get text 0 ≡ None → is_word w ≡ false → Refused (92 ∷ []) (error_at (plain_kind InvalidStrEscape) 0) ≡ escape_behind (use_of w) text
at-end w (c ∷ cs) e h = cc
at-end place.InString [] e h = refl
at-end place.InTemplate [] e h = refl
at-end place.InWord [] e h = cc

pub in-word : (w : Place) (text : Text) → is_word w ≡ true → next_is 117 text ≡ false → Refused (92 ∷ []) (error_at (plain_kind ExpectedUnicodeEscape) 0) ≡ escape_behind (use_of w) text
in-word place.InString text h not = cc
in-word place.InTemplate text h not = cc
in-word place.InWord [] h not = refl
in-word place.InWord (c ∷ cs) h not =
    rw not (go (c == 120) (is_octal_digit c) (is_line_terminator c))
  where
    go : (x y z : Bool) → Refused (92 ∷ []) (error_at (plain_kind ExpectedUnicodeEscape) 0) ≡ escape_of InWord (cond x HexLetter (cond y OctalDigit (cond z LineEnd Single))) c cs
    go true y z = refl
    go false true z = refl
    go false false true = refl
    go false false false = refl

pub same-move : (old now : Cursor) (k : ℕ) (part whole : Escape) → part ≡ whole → now ≡ passed (length (escape_spelling part) - k) old → now ≡ passed (length (escape_spelling whole) - k) old
same-move old now k part whole same h = rw (← same) h

pub not-first : (text : Text) (c x : ℕ) → Some c ≡ slice_get text 0 → next_is x text ≡ false → (c == x) ≡ false
not-first [] c x e h = cc
not-first (d ∷ ds) c x e h =
    let same : c ≡ d = cc in
    rw same h
