-- The units of a character are those that std writes for it.
use Rattle.std.proofs.Common.{◌≡◌, ◌∙◌, ◌+◌, ◌/◌, ◌%◌, ◌<◌, ◌≤◌, ℕ, Bool, true, false, cond, List, [], ◌∷◌, length, nat_lt, refl, ap, sym, arith, length-append}
use Rattle.std.specs.Prelude.{flat_map}
use Rattle.std.specs.Char.{encode_utf8}
use Rattle.std.specs.Char.Escape.{encode_utf16}
use Rattle.std.proofs.lemmas.Bool.Decides.{nat_tests}
use Rattle.std.proofs.lemmas.List.Sums.{sum_by-append}
use Rattle.ecma_positions.specs.Units.{utf16_byte, utf16_length}

-- what the bytes of a character are

abbrev behind : ℕ → ℕ
behind bits = 128 + bits % 64

abbrev spelling : ℕ → List ℕ
spelling c =
    cond (nat_lt c 128) (c ∷ [])
    (cond (nat_lt c 2048) ((192 + c / 64) ∷ (behind c ∷ []))
    (cond (nat_lt c 65536) ((224 + c / 4096) ∷ (behind (c / 64) ∷ (behind c ∷ [])))
    ((240 + c / 262144) ∷ (behind (c / 4096) ∷ (behind (c / 64) ∷ (behind c ∷ []))))))

spelled : (c : ℕ) → encode_utf8 c ≡ spelling c
unfolding encode_utf8
spelled c = refl

-- how many units they count

ascii : (b : ℕ) → b < 128 → utf16_byte b ≡ 1
ascii b low = grind (arith, nat_tests)

within : (b : ℕ) → utf16_byte (behind b) ≡ 0
within b = let small : b % 64 < 64 = omega arith in grind (arith, nat_tests, small)

lead : (b : ℕ) → 192 ≤ b → b < 240 → utf16_byte b ≡ 1
lead b low high = grind (arith, nat_tests)

lead-of-four : (b : ℕ) → 240 ≤ b → utf16_byte b ≡ 2
lead-of-four b low = grind (arith, nat_tests)

units-of-char : (c : ℕ) → utf16_length (encode_utf8 c) ≡ length (encode_utf16 c)
units-of-char c = ap utf16_length (spelled c) ∙ one (nat_lt c 128) refl
  where
    Same : Type 0
    Same = utf16_length (spelling c) ≡ length (encode_utf16 c)

    three : (x : Bool) → nat_lt c 65536 ≡ x → nat_lt c 2048 ≡ false → nat_lt c 128 ≡ false → Same
    three true e f g =
        let high : c < 65536 = grind (arith, nat_tests, e) in
        let first : utf16_byte (224 + c / 4096) ≡ 1 = lead (224 + c / 4096) (omega arith) (omega arith) in
        rw (g, f, e, first, within (c / 64), within c) refl
    three false e f g = rw (g, f, e, lead-of-four (240 + c / 262144) (omega arith), within (c / 4096), within (c / 64), within c) refl

    two : (x : Bool) → nat_lt c 2048 ≡ x → nat_lt c 128 ≡ false → Same
    two true f g =
        let high : c < 2048 = grind (arith, nat_tests, f) in
        let first : utf16_byte (192 + c / 64) ≡ 1 = lead (192 + c / 64) (omega arith) (omega arith) in
        let short : nat_lt c 65536 ≡ true = grind (arith, nat_tests, high) in
        rw (g, f, short, first, within c) refl
    two false f g = three (nat_lt c 65536) refl f g

    one : (x : Bool) → nat_lt c 128 ≡ x → Same
    one true g =
        let high : c < 128 = grind (arith, nat_tests, g) in
        let short : nat_lt c 65536 ≡ true = grind (arith, nat_tests, high) in
        rw (g, short, ascii c high) refl
    one false g = two (nat_lt c 2048) refl g

pub units-of-text : (text : List ℕ) → utf16_length (flat_map encode_utf8 text) ≡ length (flat_map encode_utf16 text)
units-of-text [] = refl
units-of-text (c ∷ cs) =
    let more = units-of-text cs in
    sum_by-append utf16_byte (encode_utf8 c) (flat_map encode_utf8 cs) ∙ ap (λ n. n + utf16_length (flat_map encode_utf8 cs)) (units-of-char c) ∙ ap (λ n. length (encode_utf16 c) + n) more
    ∙ sym (length-append (encode_utf16 c) (flat_map encode_utf16 cs))
