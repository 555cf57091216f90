-- Where an escape ends that was read, and where its error lies.
use Rattle.std.proofs.Common.{◌≡◌, ℕ, ◌+◌, ◌-◌, ◌≤◌, Bool, true, false, cond, not, ◌&&◌, ◌==◌, [], ◌∷◌, ◌++◌, length, map, take, drop, take_at, refl, sym, ap, subst, ◌∙◌, arith, nat_lt, encode_utf8_all, Option, Some, None, Result, Ok, Err, slice_range, List}
use Rattle.std.specs.Prelude.{codes, option_map}
use Rattle.std.specs.Str.Parse.{digits_value}
use Rattle.std.proofs.lemmas.Str.{length-le-encodes}
use Rattle.ecma_place.specs.Character.{is_line_terminator}
use Rattle.ecma_place.specs.Text.{Text, byte_len}
use Rattle.ecma_place.specs.Atom.{AtomView}
use Rattle.ecma_place.specs.declared.place.Span.{Span}
use Rattle.ecma_place.specs.Cursor.{Cursor, rest, place, passed, index_of}
use Rattle.ecma_place.proofs.RunLemmas.{text-passed}
use Rattle.ecma_place.proofs.MoveLemmas.{place-passed}
use Rattle.ecma_token.specs.View.{ErrorView}
use Rattle.ecma_escape.specs.declared.escape.Use.{Use as Place}
use Rattle.ecma_escape.specs.declared.escape.Use.TheVariants as place_of
use Rattle.ecma_escape.specs.declared.escape.Refusal.{Refusal}
use Rattle.ecma_escape.specs.declared.escape.Refusal.TheVariants as because
use Rattle.ecma_escape.specs.declared.escape.Meaning.{Meaning}
use Rattle.ecma_escape.specs.declared.escape.Meaning.TheVariants as answer
use Rattle.ecma_grammar.specs.Found.{Fault, FoundView, error_behind, fault_behind, value_behind, found_at, placeless, span_of}
use Rattle.ecma_grammar.specs.Fronts.{after, next_is, next_passes}
use Rattle.ecma_grammar.specs.Escapes.{Use, InString, InTemplate, InWord, Escape, Accepted, Refused, escape_spelling, escape_value, escape_faults, escape_refusal, escape, is_hex_digit, is_octal_digit, is_surrogate, hex_front, hex_escape, code_escape, four_escape, braced_escape, out_of_range, no_brace, unicode_escape, octal_front, octal_digits, octal_escape, legacy_escape, line_end, escape_of, escape_behind, UnicodeLetter, HexLetter, OctalDigit, LineEnd, Single, value_atom, found_escape}
use Rattle.ecma_escape.specs.EscapeMeanings.{use_of, is_word, answered, refusal_error, opens_escape}
use Rattle.ecma_escape.specs.EscapeParts.{answer_value, answer_faults}
use Rattle.ecma_escape.proofs.EscapeBytes.{IsAsciiIfRefused, refused_ascii}
use Rattle.ecma_grammar.proofs.EscapeLaws.{begins_is, line_length, octal_length, escape_front, escape_some}

-- An accepted escape has two characters at least, and the error of a refused one begins within it

abbrev pub Spans : Escape → Type 0
Spans (Accepted spelling value faults) = 2 ≤ length spelling
Spans (Refused spelling error) = error.span.lo.0 ≤ length spelling

hex : (ds : Text) → Spans (hex_escape ds)
hex ds = go (length ds == 2) refl
  where
    go : (b : Bool) → (length ds == 2) ≡ b → Spans (hex_escape ds)
    go true e = rw e (omega arith)
    go false e = rw e (omega arith)

code : (within : Use) (spelling : Text) (value : ℕ) → 2 ≤ length spelling → Spans (code_escape within spelling value)
code within spelling value long = go (is_surrogate value) refl
  where
    go : (b : Bool) → is_surrogate value ≡ b → Spans (code_escape within spelling value)
    go true e = rw e long
    go false e = rw e long

four : (within : Use) (ds : Text) → Spans (four_escape within ds)
four within ds = go (length ds == 4) refl within
  where
    go : (b : Bool) → (length ds == 4) ≡ b → (within : Use) → Spans (four_escape within ds)
    go true e within = rw e (code within (codes "\\u" ++ ds) (digits_value 16 ds) (omega arith))
    go false e InString = rw e (omega arith)
    go false e InTemplate = rw e (omega arith)
    go false e InWord = rw e (omega arith)

braced : (within : Use) (ds cs : Text) → Spans (braced_escape within ds cs)
braced InString [] cs = omega arith
braced InTemplate [] cs = omega arith
braced InWord [] cs = omega arith
braced within (d ∷ ds) cs = go (nat_lt 0x10_FFFF (digits_value 16 (d ∷ ds))) (next_is 125 cs) within
  where
    go : (x y : Bool) (within : Use) → Spans (cond x (out_of_range within (d ∷ ds)) (cond y (code_escape within (codes "\\u{" ++ ((d ∷ ds) ++ codes "}")) (digits_value 16 (d ∷ ds))) (no_brace within (d ∷ ds))))
    go true y InString = omega arith
    go true y InTemplate = omega arith
    go true y InWord = omega arith
    go false true within = code within (codes "\\u{" ++ ((d ∷ ds) ++ codes "}")) (digits_value 16 (d ∷ ds)) (omega arith)
    go false false InString = omega arith
    go false false InTemplate = omega arith
    go false false InWord = omega arith

unicode : (within : Use) (text : Text) → Spans (unicode_escape within text)
unicode within text = go (next_is 123 text)
  where
    go : (b : Bool) → Spans (cond b (braced_escape within (hex_front (drop 1 text)) (after is_hex_digit (drop 1 text))) (four_escape within (take 4 (hex_front text))))
    go true = braced within (hex_front (drop 1 text)) (after is_hex_digit (drop 1 text))
    go false = four within (take 4 (hex_front text))

octal : (within : Use) (c : ℕ) (cs : Text) → is_octal_digit c ≡ true → Spans (octal_escape within c cs)
octal within c cs t = go (c == 48 && not (next_passes is_octal_digit cs))
  where
    some : 1 ≤ length (octal_digits (c ∷ cs))
    some =
        let one : octal_front (c ∷ cs) ≡ c ∷ octal_front cs = rw t refl in
        let size : length (take 2 (octal_front (c ∷ cs))) ≡ length (take 2 (c ∷ octal_front cs)) = ap (λ l. length (take 2 l)) one in
        omega (arith, octal_length (c ∷ cs))

    legacy : (within : Use) → Spans (legacy_escape within c (octal_digits (c ∷ cs)))
    legacy InString = omega (arith, some)
    legacy InTemplate = omega arith
    legacy InWord = omega (arith, some)

    go : (b : Bool) → Spans (cond b (Accepted (codes "\\0") (0 ∷ []) []) (legacy_escape within c (octal_digits (c ∷ cs))))
    go true = omega arith
    go false = legacy within

pub spans : (within : Use) (text : Text) → Spans (escape_behind within text)
spans InString [] = omega arith
spans InTemplate [] = omega arith
spans InWord [] = omega arith
spans within (c ∷ cs) = go (c == 117) (c == 120) (is_octal_digit c) (is_line_terminator c) refl within
  where
    line : 2 ≤ length (92 ∷ line_end c cs)
    line = omega (arith, line_length c cs)

    go : (x y z w : Bool) → is_octal_digit c ≡ z → (within : Use) → Spans (escape_of within (cond x UnicodeLetter (cond y HexLetter (cond z OctalDigit (cond w LineEnd Single)))) c cs)
    go true y z w e within = unicode within cs
    go false true z w e InString = hex (take 2 (hex_front cs))
    go false true z w e InTemplate = hex (take 2 (hex_front cs))
    go false true z w e InWord = omega arith
    go false false true w e InString = octal InString c cs e
    go false false true w e InTemplate = octal InTemplate c cs e
    go false false true w e InWord = omega arith
    go false false false true e InString = line
    go false false false true e InTemplate = line
    go false false false true e InWord = omega arith
    go false false false false e InString = omega arith
    go false false false false e InTemplate = omega arith
    go false false false false e InWord = omega arith

-- An escape that was read

pub record IsRead (within : Use) (a : Meaning) (old now : Cursor) : Type 0 where
  pub opens : opens_escape (rest old) ≡ true
  pub answer : answered within (escape_spelling (escape within (rest old))) a ≡ escape within (rest old)
  pub moved : now ≡ passed (length (escape_spelling (escape within (rest old)))) old

pub escape-take : (within : Use) (text : Text) → opens_escape text ≡ true → take (length (escape_spelling (escape within text))) text ≡ escape_spelling (escape within text)
escape-take within text opens =
    let s = escape_spelling (escape within text) in
    let front = escape_front within (drop 1 text) in
    ap (take (length s)) (begins_is 92 text opens ∙ sym front.1) ∙ take_at s front.0 (length s) refl

pub escape-place : (within : Use) (old now : Cursor) → opens_escape (rest old) ≡ true → now ≡ passed (length (escape_spelling (escape within (rest old)))) old
    → place now ≡ place old + byte_len (escape_spelling (escape within (rest old)))
escape-place within old now opens moved =
    place-passed old now _ moved ∙ ap (λ s. place old + byte_len s) (escape-take within (rest old) opens)

pub escape-text : (within : Use) (a : Meaning) (old now : Cursor) (from to : ℕ) → IsRead within a old now → from ≡ place old → to ≡ place now
    → encode_utf8_all (slice_range now.text (index_of now from) (index_of now to)) ≡ encode_utf8_all (escape_spelling (escape within (rest old)))
escape-text within a old now from to r f t = text-passed old now _ from to r.moved f t ∙ ap encode_utf8_all (escape-take within (rest old) r.opens)

-- as many bytes as characters where it is refused
refused-size : (within : Use) (refusal : Refusal) (old now : Cursor) → IsRead within (answer.Refused refusal) old now
    → place now ≡ place old + length (escape_spelling (escape within (rest old)))
refused-size within refusal old now r =
    let ascii : IsAsciiIfRefused (answered within (escape_spelling (escape within (rest old))) (answer.Refused refusal)) =
    subst IsAsciiIfRefused (sym r.answer) (refused_ascii within (drop 1 (rest old))) in
    escape-place within old now r.opens r.moved ∙ ap (λ n. place old + n) ascii

pub refused-brace : (within : Place) (refusal : Refusal) (old now : Cursor) (start end : ℕ) → IsRead (use_of within) (answer.Refused refusal) old now
    → start ≡ place old → end ≡ place now → is_word within ≡ true → refusal ≡ because.NoBrace → start + 3 ≤ end
refused-brace place_of.InWord refusal old now start end r s e w h =
    let same = subst (λ x. Spans (answered InWord (escape_spelling (escape InWord (rest old))) (answer.Refused x))) h (subst Spans (sym r.answer) (spans InWord (drop 1 (rest old)))) in
    omega (arith, refused-size InWord refusal old now r, same)
refused-brace place_of.InString refusal old now start end r s e w h = cc
refused-brace place_of.InTemplate refusal old now start end r s e w h = cc

pub refused-error : (within : Use) (refusal : Refusal) (old now : Cursor) (start end : ℕ) (v : ErrorView) → IsRead within (answer.Refused refusal) old now
    → start ≡ place old → end ≡ place now → v ≡ error_behind start (refusal_error within refusal (end - start))
    → Some v ≡ option_map (error_behind (place old)) (escape_refusal (escape within (rest old)))
refused-error within refusal old now start end v r s e is =
    let n = length (escape_spelling (escape within (rest old))) in
    let size : end - start ≡ n = omega (arith, refused-size within refusal old now r) in
    let there : v ≡ error_behind (place old) (refusal_error within refusal n) =
    is ∙ ap (λ p. error_behind p (refusal_error within refusal (end - start))) s ∙ ap (λ m. error_behind (place old) (refusal_error within refusal m)) size in
    ap (λ x. Some x) there ∙ ap (λ x. option_map (error_behind (place old)) (escape_refusal x)) r.answer

-- What an answer says of the escape

pub value-answered : (within : Use) (spelling : Text) (a : Meaning) (e : Escape) → answered within spelling a ≡ e → answer_value (encode_utf8_all spelling) a ≡ encode_utf8_all (escape_value e)
value-answered within spelling answer.Nothing e h = ap (λ x. encode_utf8_all (escape_value x)) h
value-answered within spelling (answer.Character c) e h = ap (λ x. encode_utf8_all (escape_value x)) h
value-answered within spelling (answer.Octal c) e h = ap (λ x. encode_utf8_all (escape_value x)) h
value-answered within spelling answer.Spelling e h = ap (λ x. encode_utf8_all (escape_value x)) h
value-answered within spelling (answer.Refused refusal) e h = ap (λ x. encode_utf8_all (escape_value x)) h

pub faults-answered : (within : Place) (spelling : Text) (a : Meaning) (e : Escape) → is_word within ≡ false → answered (use_of within) spelling a ≡ e → answer_faults a ≡ escape_faults e
faults-answered within spelling answer.Nothing e w h = ap escape_faults h
faults-answered within spelling (answer.Character c) e w h = ap escape_faults h
faults-answered within spelling (answer.Octal c) e w h = ap escape_faults h
faults-answered place_of.InString spelling answer.Spelling e w h = ap escape_faults h
faults-answered place_of.InTemplate spelling answer.Spelling e w h = ap escape_faults h
faults-answered place_of.InWord spelling answer.Spelling e w h = cc
faults-answered within spelling (answer.Refused refusal) e w h = ap escape_faults h

-- the text and the faults behind an escape
pub value-behind : (within : Use) (a : Meaning) (old now : Cursor) (was new spelling : List ℕ) → IsRead within a old now
    → spelling ≡ encode_utf8_all (escape_spelling (escape within (rest old))) → new ≡ was ++ answer_value spelling a
    → new ≡ was ++ encode_utf8_all (escape_value (escape within (rest old)))
value-behind within a old now was new spelling r s e =
    e ∙ ap (λ l. was ++ answer_value l a) s ∙ ap (λ l. was ++ l) (value-answered within _ a _ r.answer)

pub faults-behind : (within : Place) (a : Meaning) (old now : Cursor) (was new : List Fault) (start : ℕ) → IsRead (use_of within) a old now → is_word within ≡ false → start ≡ place old
    → new ≡ was ++ map (fault_behind start) (answer_faults a)
    → new ≡ was ++ map (fault_behind (place old)) (escape_faults (escape (use_of within) (rest old)))
faults-behind within a old now was new start r w s e =
    e ∙ ap (λ n. was ++ map (fault_behind n) (answer_faults a)) s ∙ ap (λ l. was ++ map (fault_behind (place old)) l) (faults-answered within _ a _ w r.answer)

pub not-refused : (within : Use) (spelling : Text) (a : Meaning) (e : Escape) → answered within spelling a ≡ e → ((refusal : Refusal) → a ≡ answer.Refused refusal → ⊥) → escape_refusal e ≡ None
not-refused within spelling answer.Nothing e h not = sym (ap escape_refusal h)
not-refused within spelling (answer.Character c) e h not = sym (ap escape_refusal h)
not-refused within spelling (answer.Octal c) e h not = sym (ap escape_refusal h)
not-refused within spelling answer.Spelling e h not = sym (ap escape_refusal h)
not-refused within spelling (answer.Refused refusal) e h not = absurd (not refusal refl)

-- the first two characters of an octal escape end at a place
pub octal-room : (within : Use) (a : Meaning) (c : ℕ) (old now : Cursor) → IsRead within a old now → a ≡ answer.Octal c → place old + 2 ≤ place now
octal-room within a c old now r h =
    let s = escape_spelling (escape within (rest old)) in
    let long : Spans (answered within s (answer.Octal c)) = subst (λ x. Spans (answered within s x)) h (subst Spans (sym r.answer) (spans within (drop 1 (rest old)))) in
    omega (arith, long, escape-place within old now r.opens r.moved, length-le-encodes s)

-- an escape without a value that is not refused passes over a line terminator
pub nothing-is : (within : Use) (text : Text) (a : Meaning) → answered within (escape_spelling (escape within text)) a ≡ escape within text → escape_value (escape within text) ≡ []
    → escape_refusal (escape within text) ≡ None → a ≡ answer.Nothing
nothing-is within text a h empty accepted = go a (ap escape_value h ∙ empty) (ap escape_refusal h ∙ accepted)
  where
    spelling : Text
    spelling = escape_spelling (escape within text)

    go : (a : Meaning) → escape_value (answered within spelling a) ≡ [] → escape_refusal (answered within spelling a) ≡ None → a ≡ answer.Nothing
    go answer.Nothing v r = refl
    go (answer.Character c) v r = cc
    go (answer.Octal c) v r = cc
    go answer.Spelling v r = absurd (omega (arith, escape_some within (drop 1 text), ap length v))
    go (answer.Refused refusal) v r = cc

-- The escape by itself

pub value-none : (value : Text) → byte_len value ≡ 0 → None ≡ value_atom value
value-none [] e = refl
value-none (c ∷ cs) e = absurd (omega (arith, length-le-encodes (c ∷ cs)))

pub found-nothing : (e : Escape) → (found_escape e).value ≡ Ok None → (escape_value e ≡ []) × (escape_refusal e ≡ None)
found-nothing (Accepted spelling [] faults) h = (refl, refl)
found-nothing (Accepted spelling (c ∷ cs) faults) h = cc
found-nothing (Refused spelling error) h = cc

pub found-spelling : (e : Escape) → escape_spelling e ≡ (found_escape e).spelling
found-spelling (Accepted spelling value faults) = refl
found-spelling (Refused spelling error) = refl

pub accepted-value : (e : Escape) (p : ℕ) (v : Option AtomView) → None ≡ option_map (error_behind p) (escape_refusal e) → v ≡ value_atom (escape_value e)
    → Ok v ≡ value_behind placeless p (found_escape e).value
accepted-value (Accepted spelling value faults) p v r h = ap (λ x. Ok x) h
accepted-value (Refused spelling error) p v r h = cc

pub refused-value : (e : Escape) (p : ℕ) (v : ErrorView) → Some v ≡ option_map (error_behind p) (escape_refusal e)
    → Err v ≡ value_behind placeless p (found_escape e).value
refused-value (Accepted spelling value faults) p v r = cc
refused-value (Refused spelling error) p v r = let same : v ≡ error_behind p error = cc in ap (λ x. Err x) same

-- what is found, by its parts
pub escape-found : (e : Escape) (p : ℕ) (v : Result (Option AtomView) ErrorView) (said : List Fault) (span : Span)
    → v ≡ value_behind placeless p (found_escape e).value → said ≡ map (fault_behind p) (escape_faults e) → span ≡ span_of p (p + byte_len (escape_spelling e))
    → let found : FoundView (Option AtomView) = record { value = v; faults = said; extent = span; line_break = false } in found ≡ found_at placeless p (found_escape e)
escape-found (Accepted spelling value faults) p v said span a b d = rw (a, b, d) refl
escape-found (Refused spelling error) p v said span a b d = rw (a, b, d) refl
