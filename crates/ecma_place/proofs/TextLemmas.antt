-- What the places of a text and the slices between them are, in plain concatenations.
use Rattle.std.proofs.Common.{◌≡◌, ℕ, ◌+◌, ◌-◌, ◌++◌, length, drop, refl, ap, ◌∙◌, arith, length-append, take_at, drop_at, append_assoc, encode_utf8_all}
use Rattle.std.proofs.lemmas.Str.{encodes-append}
use Rattle.ecma_place.specs.Text.{Text, byte_len, place_of, count_within, slice_between}
use Rattle.ecma_place.proofs.CursorLemmas.{count_within-byte_len}

pub byte_len-append : (a b : Text) → byte_len (a ++ b) ≡ byte_len a + byte_len b
byte_len-append a b = ap length (encodes-append a b) ∙ length-append (encode_utf8_all a) (encode_utf8_all b)

-- the place behind two texts is the place behind the second, which starts where the first ends
pub place_of-append : (start : ℕ) (a b : Text) → place_of start (a ++ b) ≡ place_of (place_of start a) b
place_of-append start a b = omega (arith, byte_len-append a b)

count_within-front : (a b : Text) → count_within (byte_len a) (a ++ b) ≡ length a
count_within-front a b =
    let e = count_within-byte_len (a ++ b) (length a) (omega (arith, length-append a b)) in
    rw (take_at a b (length a) refl) at e

-- between the place behind a and the place behind a and b stands b, whatever follows
pub slice_between-parts : (start : ℕ) (a b c : Text) → slice_between start (a ++ b ++ c) (place_of start a) (place_of start (a ++ b)) ≡ b
slice_between-parts start a b c =
    let from : place_of start a - start ≡ byte_len a = omega arith in
    let to : place_of start (a ++ b) - start ≡ byte_len (a ++ b) = omega arith in
    let first : count_within (byte_len a) (a ++ b ++ c) ≡ length a = rw (append_assoc a b c) (count_within-front a (b ++ c)) in
    let last : count_within (byte_len (a ++ b)) (a ++ b ++ c) ≡ length (a ++ b) = count_within-front (a ++ b) c in
    let behind : drop (length a) (a ++ b ++ c) ≡ b ++ c = rw (append_assoc a b c) (drop_at a (b ++ c) _ refl) in
    let count : length (a ++ b) - length a ≡ length b = omega (arith, length-append a b) in
    rw (from, to, first, last, behind, count) (take_at b c _ refl)
