-- What is written of a refused escape has as many bytes as characters.
use Rattle.std.proofs.Common.{◌≡◌, ℕ, ◌<◌, Bool, true, false, cond, not, ◌&&◌, ◌==◌, [], ◌∷◌, ◌++◌, length, take, drop, refl, ap, ◌∙◌, arith, suc, nat_lt, ◌+◌, length-append, encode_utf8_all}
use Rattle.std.specs.Prelude.{⊤, codes}
use Rattle.std.specs.Str.Parse.{digits_value}
use Rattle.std.proofs.lemmas.Str.{encode_ascii}
use Rattle.ecma_place.specs.Character.{is_line_terminator}
use Rattle.ecma_place.specs.Text.{Text, byte_len}
use Rattle.ecma_place.proofs.MoveLemmas.{byte_len-append}
use Rattle.ecma_grammar.specs.Fronts.{after, next_is, next_passes}
use Rattle.ecma_grammar.specs.Escapes.{Use, InString, InTemplate, InWord, Escape, Accepted, Refused, is_hex_digit, is_octal_digit, is_surrogate, hex_front, hex_escape, code_escape, four_escape, braced_escape, out_of_range, no_brace, unicode_escape, octal_digits, octal_escape, legacy_escape, surrogate_faults, escape_of, escape_behind, Lead, lead, UnicodeLetter, HexLetter, OctalDigit, LineEnd, Single}
use Rattle.ecma_escape.specs.EscapeMeanings.{digit_front}
use Rattle.ecma_escape.proofs.EscapeReading.{front-bytes, hex-bytes, digit_ascii}

abbrev IsAscii : Text → Type 0
IsAscii s = byte_len s ≡ length s

abbrev pub IsAsciiIfRefused : Escape → Type 0
IsAsciiIfRefused (Accepted spelling value faults) = ⊤
IsAsciiIfRefused (Refused spelling error) = byte_len spelling ≡ length spelling

more : (c : ℕ) (cs : Text) → c < 128 → IsAscii cs → IsAscii (c ∷ cs)
more c cs low ascii = ap (λ bytes. length (bytes ++ encode_utf8_all cs)) (encode_ascii c low) ∙ ap suc ascii

two : (c : ℕ) (cs : Text) → c < 128 → IsAscii cs → IsAscii (92 ∷ (c ∷ cs))
two c cs low ascii = more 92 (c ∷ cs) (omega arith) (more c cs low ascii)

none : IsAscii []
none = refl

hex : (ds : Text) → IsAscii ds → IsAsciiIfRefused (hex_escape ds)
hex ds ascii = go (length ds == 2) refl
  where
    go : (b : Bool) → (length ds == 2) ≡ b → IsAsciiIfRefused (hex_escape ds)
    go true e = rw e tt
    go false e = rw e (two 120 ds (omega arith) ascii)

code : (within : Use) (spelling : Text) (value : ℕ) → IsAsciiIfRefused (code_escape within spelling value)
code within spelling value = go (is_surrogate value) refl
  where
    go : (b : Bool) → is_surrogate value ≡ b → IsAsciiIfRefused (code_escape within spelling value)
    go true e = rw e tt
    go false e = rw e tt

four : (within : Use) (ds : Text) → IsAscii ds → IsAsciiIfRefused (four_escape within ds)
four within ds ascii = go (length ds == 4) refl
  where
    go : (b : Bool) → (length ds == 4) ≡ b → IsAsciiIfRefused (four_escape within ds)
    go true e = rw e (code within (codes "\\u" ++ ds) (digits_value 16 ds))
    go false e = rw e (two 117 ds (omega arith) ascii)

braced : (within : Use) (ds cs : Text) → IsAscii ds → IsAsciiIfRefused (braced_escape within ds cs)
braced within [] cs ascii = two 117 (123 ∷ []) (omega arith) (more 123 [] (omega arith) none)
braced within (d ∷ ds) cs ascii = go (nat_lt 0x10_FFFF (digits_value 16 (d ∷ ds))) (next_is 125 cs)
  where
    written : IsAscii (codes "\\u{" ++ (d ∷ ds))
    written = two 117 (123 ∷ (d ∷ ds)) (omega arith) (more 123 (d ∷ ds) (omega arith) ascii)

    go : (x y : Bool) → IsAsciiIfRefused (cond x (out_of_range within (d ∷ ds)) (cond y (code_escape within (codes "\\u{" ++ ((d ∷ ds) ++ codes "}")) (digits_value 16 (d ∷ ds))) (no_brace within (d ∷ ds))))
    go true y = written
    go false true = code within (codes "\\u{" ++ ((d ∷ ds) ++ codes "}")) (digits_value 16 (d ∷ ds))
    go false false = written

unicode : (within : Use) (text : Text) → IsAsciiIfRefused (unicode_escape within text)
unicode within text = go (next_is 123 text)
  where
    go : (b : Bool) → IsAsciiIfRefused (cond b (braced_escape within (hex_front (drop 1 text)) (after is_hex_digit (drop 1 text))) (four_escape within (take 4 (hex_front text))))
    go true = braced within (hex_front (drop 1 text)) (after is_hex_digit (drop 1 text)) (ap length (hex-bytes (drop 1 text)))
    go false = four within (digit_front 16 4 text) (ap length (front-bytes 16 text 4 (omega arith)))

octal : (within : Use) (c : ℕ) (cs : Text) → is_octal_digit c ≡ true → IsAsciiIfRefused (octal_escape within c cs)
octal within c cs t = go (c == 48 && not (next_passes is_octal_digit cs))
  where
    legacy : (within : Use) → IsAsciiIfRefused (legacy_escape within c (octal_digits (c ∷ cs)))
    legacy InString = tt
    legacy InTemplate = two c [] (digit_ascii 8 c (omega arith) t) none
    legacy InWord = tt

    go : (b : Bool) → IsAsciiIfRefused (cond b (Accepted (codes "\\0") (0 ∷ []) []) (legacy_escape within c (octal_digits (c ∷ cs))))
    go true = tt
    go false = legacy within

pub refused_ascii : (within : Use) (text : Text) → IsAsciiIfRefused (escape_behind within text)
refused_ascii InString [] = more 92 [] (omega arith) none
refused_ascii InTemplate [] = more 92 [] (omega arith) none
refused_ascii InWord [] = more 92 [] (omega arith) none
refused_ascii within (c ∷ cs) = go (c == 117) (c == 120) (is_octal_digit c) (is_line_terminator c) refl within
  where
    other : (within : Use) → IsAsciiIfRefused (hex_escape (take 2 (hex_front cs)))
    other within = hex (digit_front 16 2 cs) (ap length (front-bytes 16 cs 2 (omega arith)))

    go : (x y z w : Bool) → is_octal_digit c ≡ z → (within : Use) → IsAsciiIfRefused (escape_of within (cond x UnicodeLetter (cond y HexLetter (cond z OctalDigit (cond w LineEnd Single)))) c cs)
    go true y z w e within = unicode within cs
    go false true z w e InString = other InString
    go false true z w e InTemplate = other InTemplate
    go false true z w e InWord = more 92 [] (omega arith) none
    go false false true w e InString = octal InString c cs e
    go false false true w e InTemplate = octal InTemplate c cs e
    go false false true w e InWord = more 92 [] (omega arith) none
    go false false false true e InString = tt
    go false false false true e InTemplate = tt
    go false false false true e InWord = more 92 [] (omega arith) none
    go false false false false e InString = tt
    go false false false false e InTemplate = tt
    go false false false false e InWord = more 92 [] (omega arith) none

-- An escape in a word stands for a character and is no fault, or it is a surrogate, of as many bytes as characters, or
-- it is refused
abbrev pub IsNamed : Escape → Type 0
IsNamed (Accepted spelling [] faults) = ⊥
IsNamed (Accepted spelling (c ∷ []) faults) = faults ≡ []
IsNamed (Accepted spelling (c ∷ (d ∷ cs)) faults) = (faults ≡ surrogate_faults InWord (length spelling)) × (byte_len spelling ≡ length spelling)
IsNamed (Refused spelling error) = ⊤

code_named : (s : Text) (value : ℕ) → IsAscii (92 ∷ (117 ∷ s)) → IsNamed (code_escape InWord (92 ∷ (117 ∷ s)) value)
code_named s value ascii = go (is_surrogate value) refl
  where
    go : (b : Bool) → is_surrogate value ≡ b → IsNamed (code_escape InWord (92 ∷ (117 ∷ s)) value)
    go true e = rw e (refl, ascii)
    go false e = rw e refl

four_named : (ds : Text) → IsAscii ds → IsNamed (four_escape InWord ds)
four_named ds ascii = go (length ds == 4) refl
  where
    go : (b : Bool) → (length ds == 4) ≡ b → IsNamed (four_escape InWord ds)
    go true e = rw e (code_named ds (digits_value 16 ds) (two 117 ds (omega arith) ascii))
    go false e = rw e tt

braced_named : (ds cs : Text) → IsAscii ds → IsNamed (braced_escape InWord ds cs)
braced_named [] cs ascii = tt
braced_named (d ∷ ds) cs ascii = go (nat_lt 0x10_FFFF (digits_value 16 (d ∷ ds))) (next_is 125 cs)
  where
    closed : IsAscii ((d ∷ ds) ++ (125 ∷ []))
    closed =
        byte_len-append (d ∷ ds) (125 ∷ []) ∙ ap (λ (n : ℕ). n + byte_len (125 ∷ [])) ascii
        ∙ (let one : byte_len (125 ∷ []) ≡ 1 = more 125 [] (omega arith) none in omega (arith, one, length-append (d ∷ ds) (125 ∷ [])))

    go : (x y : Bool) → IsNamed (cond x (out_of_range InWord (d ∷ ds)) (cond y (code_escape InWord (codes "\\u{" ++ ((d ∷ ds) ++ codes "}")) (digits_value 16 (d ∷ ds))) (no_brace InWord (d ∷ ds))))
    go true y = tt
    go false true = code_named (123 ∷ ((d ∷ ds) ++ codes "}")) (digits_value 16 (d ∷ ds)) (two 117 (123 ∷ ((d ∷ ds) ++ codes "}")) (omega arith) (more 123 ((d ∷ ds) ++ codes "}") (omega arith) closed))
    go false false = tt

unicode_named : (text : Text) → IsNamed (unicode_escape InWord text)
unicode_named text = go (next_is 123 text)
  where
    go : (b : Bool) → IsNamed (cond b (braced_escape InWord (hex_front (drop 1 text)) (after is_hex_digit (drop 1 text))) (four_escape InWord (take 4 (hex_front text))))
    go true = braced_named (hex_front (drop 1 text)) (after is_hex_digit (drop 1 text)) (ap length (hex-bytes (drop 1 text)))
    go false = four_named (digit_front 16 4 text) (ap length (front-bytes 16 text 4 (omega arith)))

pub word_named : (text : Text) → IsNamed (escape_behind InWord text)
word_named [] = tt
word_named (c ∷ cs) = go (lead c)
  where
    go : (o : Lead) → IsNamed (escape_of InWord o c cs)
    go UnicodeLetter = unicode_named cs
    go HexLetter = tt
    go OctalDigit = tt
    go LineEnd = tt
    go Single = tt
