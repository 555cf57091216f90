-- Bytes of a JSON string that are no escapes.
use Rattle.std.proofs.Common.{◌≡◌, ℕ, ◌≤◌, [], ◌∷◌, false, ◌==◌, ◌||◌, refl, arith}
use Rattle.std.specs.Prelude.{nat_lt}
use Rattle.std.proofs.lemmas.Bool.{ltb-false, ne_eqb, or_parts}
use Rattle.json.specs.Print.{escape_byte}
use Rattle.ecma_print.specs.Rows.{needs_escape}

-- a byte of a JSON string that is written as it is
pub written_as_is : (b : ℕ) → needs_escape b ≡ false → escape_byte b ≡ b ∷ []
unfolding escape_byte
written_as_is b e =
    let parts = or_parts (nat_lt b 32) ((b == 34) || (b == 92)) e in
    let quotes = or_parts (b == 34) (b == 92) parts.1 in
    let low : nat_lt b 32 ≡ false = parts.0 in
    let high : 32 ≤ b = ltb-false b 32 low in
    let quote : (b == 34) ≡ false = quotes.0 in
    let backslash : (b == 92) ≡ false = quotes.1 in
    let back : (b == 8) ≡ false = ne_eqb b 8 (λ is. omega arith) in
    let feed : (b == 12) ≡ false = ne_eqb b 12 (λ is. omega arith) in
    let line : (b == 10) ≡ false = ne_eqb b 10 (λ is. omega arith) in
    let return : (b == 13) ≡ false = ne_eqb b 13 (λ is. omega arith) in
    let tab : (b == 9) ≡ false = ne_eqb b 9 (λ is. omega arith) in
    rw (quote, backslash, back, feed, line, return, tab, low) refl
