-- What the bytes and the offset of an input say of its characters.
use Rattle.std.proofs.Common.{◌≡◌, Bor, ℕ, ◌+◌, ◌-◌, ◌<◌, ◌≤◌, List, [], ◌∷◌, ◌++◌, length, take, drop, refl, sym, ap, subst, ◌∙◌, arith, length-append, take-append-drop, take_at, drop_at, length-take-le, length-drop, drop-cons, nat_le, nat_eq, append_assoc, encode_utf8, encode_utf8_all, Option, None, Some, is_some, IfSome, slice_get, get_or, ◌↔◌, slice_range, zero, suc, Bool, true, false, ◌&&◌, take-add, IsUtf8, IsCharBoundary, ⊎_elim, if◌then◌else◌, nat_lt, cond}
use Rattle.std.specs.Str.{chars, all_scalars}
use Rattle.std.specs.Char.{len_utf8, IsScalar}
use Rattle.std.proofs.lemmas.Str.{chars-nil, chars-append, encode_ascii, char_from_byte, cons_from_encodes, IsCharBoundary-from_take, encodes-append, scalars-chars, IsCharBoundary-at_seam, IsUtf8-between, length-encode, len_utf8_bounds, encodes-chars, chars_past_char, IsUtf8-take, IsUtf8-drop, IsUtf8-from_is_utf8, drop_past_char, IsCharBoundary-past_char, IsCharBoundary-after_ascii, IsCharBoundary-from_rest}
use Rattle.std.proofs.lemmas.Bool.Decides.{nat_tests, Decides-eqb, leb_tells}
use Rattle.std.proofs.lemmas.Slice.Eq.{starts_is}
use Rattle.std.specs.List.{starts_with, HoldsAt}
use Rattle.std.specs.Option.{option_copied, MatchOption}
use Rattle.std.proofs.lemmas.Option.{slice_get_past, slice_get_read, slice_get_within, get_or_from_slice_get}
use Rattle.ecma_place.specs.Cursor.{Cursor, IsWithin, rest, place, passed, cursor_at, IsInput, HasPlace, count_within, moved_to, index_of, ascii_of}
use Rattle.ecma_place.specs.Text.{byte_len}

pub input_utf8 : {bytes : List ℕ} {s o : ℕ} → IsInput bytes s o → IsUtf8 bytes
input_utf8 {bytes} i = IsUtf8-from_is_utf8 bytes i.utf8

pub chars-cut : (t : List ℕ) (o : ℕ) → IsUtf8 t → IsCharBoundary t o → chars t ≡ chars (take o t) ++ chars (drop o t)
chars-cut t o u b =
    let e = chars-append (take o t) (drop o t) (IsUtf8-take t o u b) in rw take-append-drop at e

pub take-cut : (t : List ℕ) (o : ℕ) → IsUtf8 t → IsCharBoundary t o → take (length (chars (take o t))) (chars t) ≡ chars (take o t)
take-cut t o u b = rw (chars-cut t o u b) (take_at (chars (take o t)) (chars (drop o t)) _ refl)

pub drop-cut : (t : List ℕ) (o : ℕ) → IsUtf8 t → IsCharBoundary t o → drop (length (chars (take o t))) (chars t) ≡ chars (drop o t)
drop-cut t o u b = rw (chars-cut t o u b) (drop_at (chars (take o t)) (chars (drop o t)) _ refl)

-- the rest, and the place, of an input whose fields are seen as c
pub rest-seen : (t : List ℕ) (s o : ℕ) (c : Cursor) → cursor_at t s o ≡ c → IsInput t s o → rest c ≡ chars (drop o t)
rest-seen t s o c e i = rw (← e) (drop-cut t o (input_utf8 i) i.cut)

pub place-seen : (t : List ℕ) (s o : ℕ) (c : Cursor) → cursor_at t s o ≡ c → IsInput t s o → place c ≡ s + o
place-seen t s o c e i =
    rw (← e, take-cut t o (input_utf8 i) i.cut, encodes-chars (take o t) (IsUtf8-take t o (input_utf8 i) i.cut))
    (ap (λ n. s + n) (length-take-le o t i.cut.0))

-- the cursor of an input stands within its text
pub within-seen : (t : List ℕ) (s o : ℕ) (c : Cursor) → cursor_at t s o ≡ c → IsInput t s o → IsWithin c
within-seen t s o c e i =
    rw (← e) (omega (arith, ap length (chars-cut t o (input_utf8 i) i.cut), length-append (chars (take o t)) (chars (drop o t))))

-- one character further
pub length-chars-past : (t r : List ℕ) (o c : ℕ) → IsUtf8 t → IsCharBoundary t o → drop o t ≡ encode_utf8 c ++ r → length (chars (take (o + len_utf8 c) t)) ≡ length (chars (take o t)) + 1
length-chars-past t r o c u b e =
    let after : IsCharBoundary t (o + len_utf8 c) = IsCharBoundary-past_char t r o c b.0 (IsUtf8-drop t o u b) e in
    let was = ap length (chars-cut t o u b) in
    let now = ap length (chars-cut t (o + len_utf8 c) u after) in
    let head = ap length (chars_past_char (drop o t) r c (IsUtf8-drop t o u b) e) in
    let tail = ap (λ (x : List ℕ). length (chars x)) (drop_past_char t r o c e) in
    omega (arith, length-append (chars (take o t)) (chars (drop o t)), length-append (chars (take (o + len_utf8 c) t)) (chars (drop (o + len_utf8 c) t)), was, now, head, tail)

pub IsInput-past : (t r : List ℕ) (s o c : ℕ) → IsInput t s o → drop o t ≡ encode_utf8 c ++ r → IsInput t s (o + len_utf8 c)
IsInput-past t r s o c i e = record {
  utf8 = i.utf8;
  cut = IsCharBoundary-past_char t r o c i.cut.0 (IsUtf8-drop t o (input_utf8 i) i.cut) e;
  fits = i.fits;
}

-- the bytes of the rest
pub bytes-seen : (t : List ℕ) (s o : ℕ) (c : Cursor) → cursor_at t s o ≡ c → IsInput t s o → drop o t ≡ encode_utf8_all (rest c)
bytes-seen t s o c e i =
    sym (ap encode_utf8_all (rest-seen t s o c e i) ∙ encodes-chars (drop o t) (IsUtf8-drop t o (input_utf8 i) i.cut))

-- a step over the first character of the rest
pub cursor-past : (t r : List ℕ) (s o k : ℕ) (c : Cursor) → cursor_at t s o ≡ c → IsInput t s o → drop o t ≡ encode_utf8 k ++ r → cursor_at t s (o + len_utf8 k) ≡ passed 1 c
cursor-past t r s o k c e i p =
    rw (← e) (ap (λ (n : ℕ). let seen : Cursor = record { start = s; text = chars t; at = n } in seen) (length-chars-past t r o k (input_utf8 i) i.cut p))

-- the cursor of a text at its start
pub cursor_at-start : (t : List ℕ) (s : ℕ) → cursor_at t s 0 ≡ record { start = s; text = chars t; at = 0 }
cursor_at-start t s = rw chars-nil refl

-- a character further on in a text is a character of what follows the first
pub later-char : (t r : List ℕ) (a n : ℕ) (x : Option ℕ) → IsUtf8 t → t ≡ encode_utf8 a ++ r → x ≡ slice_get (chars r) n → x ≡ slice_get (chars t) (suc n)
later-char t r a n x u e h = rw (chars_past_char t r a u e) h

pub get-none : (xs : List ℕ) → slice_get xs 0 ≡ None → slice_get xs 1 ≡ None
get-none [] e = refl
get-none (x ∷ xs) e = cc

and-right : (x y : Bool) → (x && y) ≡ true → y ≡ true
and-right true y h = h
and-right false y h = cc

pub scalars-drop : (cs : List ℕ) (n : ℕ) → all_scalars cs ≡ true → all_scalars (drop n cs) ≡ true
scalars-drop cs zero h = h
scalars-drop [] (suc n) h = refl
scalars-drop (c ∷ cs) (suc n) h = scalars-drop cs n (and-right _ _ h)

-- the bytes of a text, cut behind n of its characters
pub split-at : (t : List ℕ) (n : ℕ) → IsUtf8 t → t ≡ encode_utf8_all (take n (chars t)) ++ encode_utf8_all (drop n (chars t))
split-at t n u = rw (← encodes-append (take n (chars t)) (drop n (chars t)), take-append-drop n (chars t), encodes-chars t u) refl

pub boundary-at : (t : List ℕ) (n : ℕ) → IsUtf8 t → IsCharBoundary t (byte_len (take n (chars t)))
boundary-at t n u =
    IsCharBoundary-at_seam t (encode_utf8_all (take n (chars t))) (encode_utf8_all (drop n (chars t))) (split-at t n u)
    (drop n (chars t), (scalars-drop (chars t) n (scalars-chars t u), refl))

-- where a text is cut, that many characters stand before
pub byte_len-cut : (t : List ℕ) (o : ℕ) → IsUtf8 t → IsCharBoundary t o → byte_len (take (length (chars (take o t))) (chars t)) ≡ o
byte_len-cut t o u b = rw (take-cut t o u b, encodes-chars (take o t) (IsUtf8-take t o u b)) (length-take-le o t b.0)

pub count_within-none : (c : ℕ) (cs : List ℕ) → count_within 0 (c ∷ cs) ≡ 0
count_within-none c cs =
    let long : nat_le (len_utf8 c) 0 ≡ false = grind (arith, nat_tests, len_utf8_bounds c) in
    rw long refl

pub count_within-more : (c n : ℕ) (cs : List ℕ) → count_within (len_utf8 c + n) (c ∷ cs) ≡ 1 + count_within n cs
count_within-more c n cs =
    let fits : nat_le (len_utf8 c) (len_utf8 c + n) ≡ true = grind (arith, nat_tests) in
    let left : len_utf8 c + n - len_utf8 c ≡ n = omega arith in
    rw (fits, left) refl

pub byte_len-cons : (c : ℕ) (cs : List ℕ) → byte_len (c ∷ cs) ≡ len_utf8 c + byte_len cs
byte_len-cons c cs = rw (length-append (encode_utf8 c) (encode_utf8_all cs), length-encode c) refl

pub count_within-byte_len : (cs : List ℕ) (n : ℕ) → n ≤ length cs → count_within (byte_len (take n cs)) cs ≡ n
count_within-byte_len [] zero h = refl
count_within-byte_len [] (suc n) h = absurd (omega arith)
count_within-byte_len (c ∷ cs) zero h = count_within-none c cs
count_within-byte_len (c ∷ cs) (suc n) h =
    rw (byte_len-cons c (take n cs), count_within-more c (byte_len (take n cs)) cs, count_within-byte_len cs n (omega arith))
    (omega arith)

pub count_within-cut : (t : List ℕ) (o : ℕ) → IsUtf8 t → IsCharBoundary t o → count_within o (chars t) ≡ length (chars (take o t))
count_within-cut t o u b =
    let whole = ap length (chars-cut t o u b) in
    let within : length (chars (take o t)) ≤ length (chars t) = omega (arith, whole, length-append (chars (take o t)) (chars (drop o t))) in
    let e = count_within-byte_len (chars t) (length (chars (take o t))) within in
    rw (byte_len-cut t o u b) at e

-- the places of an input that is seen as c
pub boundary-seen : (t : List ℕ) (s o p : ℕ) (c : Cursor) → cursor_at t s o ≡ c → IsInput t s o → HasPlace c p → (s ≤ p) × IsCharBoundary t (p - s)
boundary-seen t s o p c e i h =
    let there = subst (λ (x : Cursor). HasPlace x p) (sym e) h in
    let off : p - s ≡ byte_len (take there.0 (chars t)) = omega (arith, there.1) in
    (omega (arith, there.1), rw off (boundary-at t there.0 (input_utf8 i)))

pub HasPlace-seen : (t : List ℕ) (s o p : ℕ) (c : Cursor) → cursor_at t s o ≡ c → IsInput t s o → s ≤ p → IsCharBoundary t (p - s) → HasPlace c p
HasPlace-seen t s o p c e i l b =
    let len = byte_len-cut t (p - s) (input_utf8 i) b in
    subst (λ (x : Cursor). HasPlace x p) e (length (chars (take (p - s) t)), omega (arith, len))

pub IsInput-at : (t : List ℕ) (s o p : ℕ) (c : Cursor) → cursor_at t s o ≡ c → IsInput t s o → HasPlace c p → IsInput t s (p - s)
IsInput-at t s o p c e i h = record { utf8 = i.utf8; cut = (boundary-seen t s o p c e i h).1; fits = i.fits }

pub moved-seen : (t : List ℕ) (s o p : ℕ) (c : Cursor) → cursor_at t s o ≡ c → IsInput t s o → HasPlace c p → cursor_at t s (p - s) ≡ moved_to (index_of c p) c
moved-seen t s o p c e i h =
    rw (← e) (ap (λ (n : ℕ). let seen : Cursor = record { start = s; text = chars t; at = n } in seen)
    (sym (count_within-cut t (p - s) (input_utf8 i) (boundary-seen t s o p c e i h).1)))

pub length-chars-between : (t : List ℕ) (i j : ℕ) → IsUtf8 t → IsCharBoundary t i → i ≤ j → length (chars (take j t)) ≡ length (chars (take i t)) + length (chars (slice_range t i j))
length-chars-between t i j u bi l =
    let sum : i + (j - i) ≡ j = omega arith in
    let cut : take j t ≡ take i t ++ slice_range t i j = rw sum at (take-add i (j - i) t) in
    rw (cut, chars-append (take i t) (slice_range t i j) (IsUtf8-take t i u bi), length-append (chars (take i t)) (chars (slice_range t i j))) refl

IsCharBoundary-drop : (t : List ℕ) (i j : ℕ) → IsUtf8 t → IsCharBoundary t i → IsCharBoundary t j → i ≤ j → IsCharBoundary (drop i t) (j - i)
IsCharBoundary-drop t i j u bi bj l =
    let short : j - i ≤ length (drop i t) = omega (arith, length-drop i t, bj.0) in
    IsCharBoundary-from_take (drop i t) (j - i) (IsUtf8-drop t i u bi) short (IsUtf8-between t i j u l bi bj)

chars-between : (t : List ℕ) (i j : ℕ) → IsUtf8 t → IsCharBoundary t i → IsCharBoundary t j → i ≤ j → take (length (chars (take j t)) - length (chars (take i t))) (chars (drop i t)) ≡ chars (slice_range t i j)
chars-between t i j u bi bj l =
    let count = length-chars-between t i j u bi l in
    let less : length (chars (take j t)) - length (chars (take i t)) ≡ length (chars (slice_range t i j)) = omega arith in
    rw less (take-cut (drop i t) (j - i) (IsUtf8-drop t i u bi) (IsCharBoundary-drop t i j u bi bj l))

-- the characters between two places where a text is cut
pub encodes-between : (t : List ℕ) (i j : ℕ) → IsUtf8 t → IsCharBoundary t i → IsCharBoundary t j → i ≤ j → encode_utf8_all (slice_range (chars t) (count_within i (chars t)) (count_within j (chars t))) ≡ slice_range t i j
encodes-between t i j u bi bj l =
    rw (count_within-cut t i u bi, count_within-cut t j u bj, drop-cut t i u bi, chars-between t i j u bi bj l)
    (encodes-chars (slice_range t i j) (IsUtf8-between t i j u l bi bj))

-- a cursor stands at the start of the text where no byte is before it
pub start-seen : (t : List ℕ) (s o : ℕ) (c : Cursor) → cursor_at t s o ≡ c → IsInput t s o → (o ≡ 0 → c.at ≡ 0) × (c.at ≡ 0 → o ≡ 0)
start-seen t s o c e i =
    let len = byte_len-cut t o (input_utf8 i) i.cut in
    rw (← e) (λ z. rw (z, chars-nil) refl, λ z. rw z at (sym len))

pub between-seen : (t : List ℕ) (s o p q : ℕ) (c : Cursor) → cursor_at t s o ≡ c → IsInput t s o → HasPlace c p → HasPlace c q → p ≤ q → slice_range t (p - s) (q - s) ≡ encode_utf8_all (slice_range c.text (index_of c p) (index_of c q))
between-seen t s o p q c e i hp hq l =
    let bp = (boundary-seen t s o p c e i hp).1 in
    let bq = (boundary-seen t s o q c e i hq).1 in
    rw (← e) (sym (encodes-between t (p - s) (q - s) (input_utf8 i) bp bq (omega arith)))

-- a list whose bytes begin with those of another begins with it
front_from_encodes : (ys cs tail : List ℕ) → encode_utf8_all cs ≡ encode_utf8_all ys ++ tail → (es : List ℕ) × (cs ≡ ys ++ es)
front_from_encodes [] cs tail e = (cs, refl)
front_from_encodes (y ∷ ys) cs tail e =
    let first = cons_from_encodes cs (encode_utf8_all ys ++ tail) y (e ∙ append_assoc (encode_utf8 y) (encode_utf8_all ys) tail) in
    let more = front_from_encodes ys first.0 tail first.2 in
    (more.0, first.1 ∙ ap (λ (l : List ℕ). y ∷ l) more.1)

same_bool : (a b : Bool) → (a ≡ true → b ≡ true) → (b ≡ true → a ≡ true) → a ≡ b
same_bool true b f g = sym (f refl)
same_bool false true f g = g refl
same_bool false false f g = refl

pub starts_with-encodes : (xs ys : List ℕ) → starts_with nat_eq (encode_utf8_all xs) (encode_utf8_all ys) ≡ starts_with nat_eq xs ys
starts_with-encodes xs ys =
    let bytes = starts_is Decides-eqb (encode_utf8_all xs) (encode_utf8_all ys) _ refl in
    let text = starts_is Decides-eqb xs ys _ refl in
    same_bool _ _
    (λ t. let front = front_from_encodes ys xs _ (bytes.0 t) in text.1 front.0 front.1)
    (λ t. bytes.1 (encode_utf8_all (drop (length ys) xs)) (ap encode_utf8_all (text.0 t) ∙ encodes-append ys (drop (length ys) xs)))

-- a step over n bytes
pub IsInput-bumped : (t : List ℕ) (s o n : ℕ) (c : Cursor) → cursor_at t s o ≡ c → IsInput t s o → HasPlace c (place c + n) → IsInput t s (o + n)
IsInput-bumped t s o n c e i h =
    let there = (boundary-seen t s o (place c + n) c e i h).1 in
    let same : place c + n - s ≡ o + n = omega (arith, place-seen t s o c e i) in
    record { utf8 = i.utf8; cut = rw same at there; fits = i.fits }

pub cursor-bumped : (t : List ℕ) (s o n : ℕ) (c : Cursor) → cursor_at t s o ≡ c → IsInput t s o → HasPlace c (place c + n) → cursor_at t s (o + n) ≡ passed (count_within n (rest c)) c
cursor-bumped t s o n c e i h =
    let there = IsInput-bumped t s o n c e i h in
    let u = input_utf8 i in
    let less : o + n - o ≡ n = omega arith in
    let l : o ≤ o + n = omega arith in
    let within = rw less at (count_within-cut (drop o t) (o + n - o) (IsUtf8-drop t o u i.cut) (IsCharBoundary-drop t o (o + n) u i.cut there.cut l)) in
    let count : length (chars (take (o + n) t)) ≡ length (chars (take o t)) + count_within n (chars (drop o t)) =
    rw within (rw less at (length-chars-between t o (o + n) u i.cut l)) in
    rw (rest-seen t s o c e i, ← e) (ap (λ (k : ℕ). let seen : Cursor = record { start = s; text = chars t; at = k } in seen) count)

get-read : (xs : List ℕ) (b : ℕ) → slice_get xs 0 ≡ Some b → get_or xs 0 0 ≡ b
get-read [] b h = cc
get-read (x ∷ xs) b h = cc

nonempty-read : (xs : List ℕ) (b : ℕ) → slice_get xs 0 ≡ Some b → 0 < length xs
nonempty-read [] b h = cc
nonempty-read (x ∷ xs) b h = omega arith

-- the first byte of a text, where it or the first character is ASCII, is that character
pub first_byte : (cs : List ℕ) (b : ℕ) → b < 128 → (slice_get (encode_utf8_all cs) 0 ≡ Some b) ↔ (slice_get cs 0 ≡ Some b)
first_byte [] b l = (λ h. h, λ h. h)
first_byte (c ∷ cs) b l = (
  λ h. ap Some (char_from_byte (encode_utf8_all (c ∷ cs)) (encode_utf8_all cs) c refl (rw (get-read _ b h) l) (nonempty-read _ b h) ∙ get-read _ b h),
  λ h. let same : c ≡ b = cc in
      let short : c < 128 = rw same l in
      rw (encode_ascii c short) h,
)

pub slice_get-drop : (t : List ℕ) (o : ℕ) → o < length t → slice_get (drop o t) 0 ≡ Some (get_or t o 0)
slice_get-drop t o l = rw (drop-cons t o 0 l) refl

past_ascii : (c b : ℕ) (bs cs : List ℕ) → bs ≡ encode_utf8 c ++ cs → slice_get bs 0 ≡ Some b → 128 ≤ c → nat_lt b 128 ≡ false
past_ascii c b bs cs e first high =
    let byte = get-read bs b first in
    let some = nonempty-read bs b first in
    ⊎_elim
    (λ (h : (nat_le 128 b ≡ true) × (128 ≤ b)). grind (arith, nat_tests, h.1))
    (λ (h : (nat_le 128 b ≡ false) × (b < 128)). let same = char_from_byte bs cs c e (rw byte h.1) some in absurd (omega (arith, same, byte, h.1)))
    (leb_tells 128 b)

-- the first byte of a text is ASCII where the first character is, and is then that character
pub ascii_of-first : (cs : List ℕ) (b : ℕ) → slice_get (encode_utf8_all cs) 0 ≡ Some b → (if nat_lt b 128 then Some b else None) ≡ ascii_of (slice_get cs 0)
ascii_of-first [] b h = cc
ascii_of-first (c ∷ cs) b h =
    ⊎_elim
    (λ (high : (nat_le 128 c ≡ true) × (128 ≤ c)).
    let byte = past_ascii c b (encode_utf8_all (c ∷ cs)) (encode_utf8_all cs) refl h high.1 in
    let char : nat_lt c 128 ≡ false = grind (arith, nat_tests, high.1) in
    rw (byte, char) refl)
    (λ (low : (nat_le 128 c ≡ false) × (c < 128)).
    let same : c ≡ b = let first = rw (encode_ascii c low.1) at h in cc in
    rw same refl)
    (leb_tells 128 c)

-- the same of the byte at the offset of an input
pub ascii_of-seen : (t : List ℕ) (s o : ℕ) (c : Cursor) → cursor_at t s o ≡ c → IsInput t s o → o < length t → (if nat_lt (get_or t o 0) 128 then Some (get_or t o 0) else None) ≡ ascii_of (slice_get (rest c) 0)
ascii_of-seen t s o c e i l =
    let first = rw (bytes-seen t s o c e i) at (slice_get-drop t o l) in ascii_of-first (rest c) (get_or t o 0) first

and-parts-right : (x y : Bool) → (x && y) ≡ true → (x ≡ true) × (y ≡ true)
and-parts-right true y h = (refl, h)
and-parts-right false y h = cc

-- a character of a text is a scalar value
scalar-get : (cs : List ℕ) → all_scalars cs ≡ true → IfSome (slice_get cs 0) IsScalar
scalar-get [] h = tt
scalar-get (c ∷ cs) h = (and-parts-right _ _ h).0

pub scalar-first : (t : List ℕ) (x : Option ℕ) → IsUtf8 t → x ≡ slice_get (chars t) 0 → IfSome x IsScalar
scalar-first t x u e = rw e (scalar-get (chars t) (scalars-chars t u))

ascii-first : (cs : List ℕ) → is_some (ascii_of (slice_get cs 0)) ≡ true → (k : ℕ) × (r : List ℕ) × (cs ≡ k ∷ r) × (k < 128)
ascii-first [] h = cc
ascii-first (k ∷ r) h =
    ⊎_elim
    (λ (high : (nat_le 128 k ≡ true) × (128 ≤ k)). let past : nat_lt k 128 ≡ false = grind (arith, nat_tests, high.1) in cc)
    (λ (low : (nat_le 128 k ≡ false) × (k < 128)). (k, r, refl, low.1))
    (leb_tells 128 k)

-- a step over an ASCII character is one byte
pub ascii-past : (t : List ℕ) (s o : ℕ) (c : Cursor) → cursor_at t s o ≡ c → IsInput t s o → is_some (ascii_of (slice_get (rest c) 0)) ≡ true → IsInput t s (o + 1) × (cursor_at t s (o + 1) ≡ passed 1 c)
ascii-past t s o c e i h =
    let first = ascii-first (rest c) h in
    let k = first.0 in
    let r = first.1 in
    let bytes : drop o t ≡ encode_utf8 k ++ encode_utf8_all r = bytes-seen t s o c e i ∙ ap encode_utf8_all first.2 in
    let one : len_utf8 k ≡ 1 = sym (length-encode k) ∙ ap length (encode_ascii k first.3) in
    (rw one at (IsInput-past t (encode_utf8_all r) s o k i bytes), rw one at (cursor-past t (encode_utf8_all r) s o k c e i bytes))

-- what `get` and `copied` give is the element, if there is one
pub copied_get : (o : Option (Bor ℕ)) (xs : List ℕ) (i : ℕ) → IfSome o (λ x. x.now ≡ get_or xs i x.now) → MatchOption o (length xs ≤ i) (λ x. (i < length xs) × HoldsAt (λ y. x.now ≡ y) xs i) → option_copied o ≡ slice_get xs i
copied_get None xs i is there = sym (slice_get_past xs i there)
copied_get (Some x) xs i is there = sym (slice_get_read xs (length xs) i x.now refl there.0 is)

ascii-cuts : (t : List ℕ) (n b : ℕ) → IsUtf8 t → slice_get t n ≡ Some b → b < 128 → IsCharBoundary t n × IsCharBoundary t (n + 1)
ascii-cuts t n b u got low =
    let within = slice_get_within t n b got in
    let byte : get_or t n 0 ≡ b = get_or_from_slice_get t n b 0 got in
    ((omega (arith, within), λ inside high. absurd (omega (arith, byte, high, low))), IsCharBoundary-after_ascii t n u within (rw byte low))

-- before and behind an ASCII byte of the rest is a place
pub ascii-places : (t : List ℕ) (s o k : ℕ) (c : Cursor) (x : Option ℕ) → cursor_at t s o ≡ c → IsInput t s o → x ≡ slice_get (encode_utf8_all (rest c)) k
    → IfSome x (λ b. b < 128 → HasPlace c (place c + k) × HasPlace c (place c + (k + 1)))
ascii-places t s o k c None e i got = tt
ascii-places t s o k c (Some b) e i got = λ low.
    let u = input_utf8 i in
    let here : place c ≡ s + o = place-seen t s o c e i in
    let cuts = ascii-cuts (drop o t) k b (IsUtf8-drop t o u i.cut) (rw (bytes-seen t s o c e i) (sym got)) low in
    let first : place c + k - s ≡ o + k = omega arith in
    let second : place c + (k + 1) - s ≡ o + (k + 1) = omega arith in (
      HasPlace-seen t s o (place c + k) c e i (omega arith) (rw first (IsCharBoundary-from_rest t o k i.cut.0 cuts.0)),
      HasPlace-seen t s o (place c + (k + 1)) c e i (omega arith) (rw second (IsCharBoundary-from_rest t o (k + 1) i.cut.0 cuts.1)),
    )

-- a byte that is ASCII is the first character
pub ascii-is : (first : Option ℕ) (b : ℕ) → ascii_of first ≡ Some b → first ≡ Some b
ascii-is None b e = cc
ascii-is (Some c) b e = go (nat_lt c 128) e
  where
    go : (x : Bool) → cond x (Some c) None ≡ Some b → Some c ≡ Some b
    go true e = e
    go false e = cc
