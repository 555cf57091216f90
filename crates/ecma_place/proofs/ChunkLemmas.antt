-- What the bytes at a cursor say of the characters there: from lanes to moves.
use Rattle.std.proofs.Common.{◌≡◌, ℕ, ◌+◌, ◌<◌, ◌≤◌, Bool, true, false, List, [], ◌∷◌, take, min, cond, encode_utf8_all, zero, suc, refl, sym, ap, subst, ◌∙◌, one-add, arith}
use Rattle.std.specs.List.{prefix_len}
use Rattle.std.proofs.lemmas.Bool.Decides.{nat_tests}
use Rattle.std.proofs.lemmas.Str.{len_utf8_ascii}
use Rattle.ecma_place.specs.Cursor.{Cursor, rest, place, passed, HasPlace, count_within}
use Rattle.ecma_place.specs.Text.{Text, byte_len}
use Rattle.ecma_place.specs.Run.{is_white_byte}
use Rattle.ecma_place.proofs.CursorLemmas.{count_within-none, count_within-more, byte_len-cons}
use Rattle.ecma_place.proofs.ClassLemmas.{ascii-run}
use Rattle.ecma_place.proofs.MoveLemmas.{place-passed}

-- a run in the first n items is the list's, as far as n
prefix_len-take : (p : ℕ → Bool) (n : ℕ) (xs : List ℕ) → prefix_len p (take n xs) ≡ min n (prefix_len p xs)
prefix_len-take p zero xs = omega arith
prefix_len-take p (suc n) [] = omega arith
prefix_len-take p (suc n) (x ∷ xs) = go (p x) (prefix_len-take p n xs)
  where
    go : (b : Bool) → prefix_len p (take n xs) ≡ min n (prefix_len p xs) → cond b (1 + prefix_len p (take n xs)) 0 ≡ min (suc n) (cond b (1 + prefix_len p xs) 0)
    go true more = omega (arith, more)
    go false more = omega arith

-- a run that ends within the first n bytes is the run of all
pub chunk-run : (p : ℕ → Bool) (n k : ℕ) (bs : List ℕ) → k ≡ prefix_len p (take n bs) → k < n → k ≡ prefix_len p bs
chunk-run p n k bs e l = omega (arith, prefix_len-take p n bs)

pub chunk-within : (p : ℕ → Bool) (n k : ℕ) (bs : List ℕ) → k ≡ prefix_len p (take n bs) → k ≤ prefix_len p bs
chunk-within p n k bs e = omega (arith, prefix_len-take p n bs)

-- as many bytes as characters
record OneByteEach (k : ℕ) (cs : Text) : Type 0 where
  pub bytes : byte_len (take k cs) ≡ k
  pub count : count_within k cs ≡ k

one_byte-none : (cs : Text) → OneByteEach 0 cs
one_byte-none [] = record { bytes = refl; count = refl }
one_byte-none (c ∷ cs) = record { bytes = refl; count = count_within-none c cs }

one_byte-more : (k c : ℕ) (cs : Text) → c < 128 → OneByteEach k cs → OneByteEach (suc k) (c ∷ cs)
one_byte-more k c cs short more =
    let count : count_within (1 + k) (c ∷ cs) ≡ 1 + k =
    subst (λ (n : ℕ). count_within (n + k) (c ∷ cs) ≡ 1 + count_within k cs) (len_utf8_ascii c short) (count_within-more c k cs) ∙ ap (λ (n : ℕ). 1 + n) more.count in
    record {
      bytes = omega (arith, byte_len-cons c (take k cs), len_utf8_ascii c short, more.bytes);
      count = rw (one-add k) at count;
    }

-- the characters of a run of ASCII
one_byte-each : (p : ℕ → Bool) (k : ℕ) (cs : Text) → ((b : ℕ) → p b ≡ true → b < 128) → k ≤ prefix_len p cs → OneByteEach k cs
one_byte-each p zero cs low l = one_byte-none cs
one_byte-each p (suc k) [] low l = absurd (omega (arith, l))
one_byte-each p (suc k) (c ∷ cs) low l = go (p c) refl l (one_byte-each p k cs low)
  where
    go : (b : Bool) → p c ≡ b → suc k ≤ cond b (1 + prefix_len p cs) 0 → (k ≤ prefix_len p cs → OneByteEach k cs) → OneByteEach (suc k) (c ∷ cs)
    go true e less more = one_byte-more k c cs (low c e) (more (omega (arith, less)))
    go false e less more = absurd (omega (arith, less))

-- a run of ASCII in the first n bytes at a cursor is a run of characters
pub chunk-chars : (p : ℕ → Bool) (n k : ℕ) (cs : Text) → ((b : ℕ) → p b ≡ true → b < 128) → k ≡ prefix_len p (take n (encode_utf8_all cs)) → k ≤ prefix_len p cs
chunk-chars p n k cs low e = omega (arith, chunk-within p n k (encode_utf8_all cs) e, (ascii-run p cs low).0)

-- and has as many characters as bytes
pub chunk-count : (p : ℕ → Bool) (n k : ℕ) (cs : Text) → ((b : ℕ) → p b ≡ true → b < 128) → k ≡ prefix_len p (take n (encode_utf8_all cs)) → count_within k cs ≡ k
chunk-count p n k cs low e = (one_byte-each p k cs low (chunk-chars p n k cs low e)).count

-- and behind it is a place
pub chunk-HasPlace : (p : ℕ → Bool) (n k : ℕ) (c : Cursor) → ((b : ℕ) → p b ≡ true → b < 128) → k ≡ prefix_len p (take n (encode_utf8_all (rest c))) → HasPlace c (place c + k)
chunk-HasPlace p n k c low e =
    let each = one_byte-each p k (rest c) low (chunk-chars p n k (rest c) low e) in
    let there : place (passed k c) ≡ place c + k = place-passed c (passed k c) k refl ∙ ap (λ (i : ℕ). place c + i) each.bytes in
    (c.at + k, sym there)

pub white_ascii : (b : ℕ) → is_white_byte b ≡ true → b < 128
white_ascii b h = grind (arith, nat_tests)
