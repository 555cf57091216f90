-- Where a cursor stands behind what it passed.
use Rattle.std.proofs.Common.{◌≡◌, ℕ, ◌+◌, ◌≤◌, ◌++◌, length, take, ap, ◌∙◌, arith, length-append, encode_utf8_all, take-add}
use Rattle.std.proofs.lemmas.Str.{encodes-append}
use Rattle.ecma_place.specs.Text.{Text, byte_len}
use Rattle.ecma_place.specs.Cursor.{Cursor, rest, place, passed}
use Rattle.ecma_span.specs.declared.place.BytePos.{BytePos}
use Rattle.ecma_span.specs.declared.place.Span.{Span}

pub byte_len-append : (xs ys : Text) → byte_len (xs ++ ys) ≡ byte_len xs + byte_len ys
byte_len-append xs ys = ap length (encodes-append xs ys) ∙ length-append (encode_utf8_all xs) (encode_utf8_all ys)

-- the place behind n characters of the rest
pub place-passed : (old now : Cursor) (n : ℕ) → now ≡ passed n old → place now ≡ place old + byte_len (take n (rest old))
place-passed old now n e =
    let cut = ap byte_len (take-add old.at n old.text) ∙ byte_len-append (take old.at old.text) (take n (rest old)) in
    rw e (omega (arith, cut))

pub place-passed-le : (old now : Cursor) (n : ℕ) → now ≡ passed n old → place old ≤ place now
place-passed-le old now n e = omega (arith, place-passed old now n e)

-- from where a cursor stood to behind a front of its rest
pub span-passed : (old now : Cursor) (spelling : Text) (lo hi : BytePos) → take (length spelling) (rest old) ≡ spelling → now ≡ passed (length spelling) old
    → lo.0 ≡ place old → hi.0 ≡ place now → let span : Span = record { lo = lo; hi = hi } in span ≡ record { lo = record { 0 = place old }; hi = record { 0 = place old + byte_len spelling } }
span-passed old now spelling lo hi front moved l h =
    let there : place now ≡ place old + byte_len spelling = place-passed old now (length spelling) moved ∙ ap (λ s. place old + byte_len s) front in
    let span : ℕ → ℕ → Span = λ low high. record { lo = record { 0 = low }; hi = record { 0 = high } } in
    ap (λ low. span low hi.0) l ∙ ap (λ high. span (place old) high) (h ∙ there)
