-- A loop that moves a cursor over the characters that pass a test, one at a time.
use Rattle.std.proofs.Common.{◌≡◌, ℕ, ◌+◌, ◌-◌, ◌<◌, ◌≤◌, List, [], ◌∷◌, length, take, drop, refl, sym, ap, ◌∙◌, arith, Some, None, slice_get, slice_range, zero, suc, Bool, true, false, min, encode_utf8_all, length-drop, length-append, drop-drop, take-add, drop_of_length-le, ⊎_elim, ◌||◌}
use Rattle.std.specs.List.{prefix_len, take_while, list_any}
use Rattle.std.proofs.lemmas.Grind.{common_steps}
use Rattle.std.proofs.Math.Seq.{take-nil}
use Rattle.std.proofs.lemmas.List.Sums.{take_while-cons}
use Rattle.std.proofs.lemmas.Str.{encodes-append}
use Rattle.std.proofs.lemmas.Bool.Decides.{leb_tells}
use Rattle.ecma_place.specs.Cursor.{Cursor, rest, place, place_at, passed, moved_to, count_within, index_of, HasPlace}
use Rattle.ecma_place.specs.Text.{byte_len}
use Rattle.ecma_place.proofs.CursorLemmas.{count_within-none, count_within-more, count_within-byte_len, byte_len-cons}

-- the run of characters from `now` on that pass p ends where the run from `old` on does
pub record IsOnRun (p : ℕ → Bool) (old now : Cursor) : Type 0 where
  pub same_end : passed (prefix_len p (rest now)) now ≡ passed (prefix_len p (rest old)) old
  pub further : old.at ≤ now.at

pub run-start : (p : ℕ → Bool) (c : Cursor) → IsOnRun p c c
run-start p c = record { same_end = refl; further = omega arith }

pub first-cons : (cs : List ℕ) (x : ℕ) → slice_get cs 0 ≡ Some x → cs ≡ x ∷ drop 1 cs
first-cons [] x e = cc
first-cons (c ∷ cs) x e = ap (λ (y : ℕ). y ∷ cs) (let same : c ≡ x = cc in same)

-- the run at a list whose first character passes, or fails, or isn't there
prefix_len-first : (p : ℕ → Bool) (cs : List ℕ) (x : ℕ) → slice_get cs 0 ≡ Some x → p x ≡ true → prefix_len p cs ≡ 1 + prefix_len p (drop 1 cs)
prefix_len-first p [] x e t = cc
prefix_len-first p (c ∷ cs) x e t =
    let same : c ≡ x = cc in
    rw (same, t) refl

prefix_len-stop : (p : ℕ → Bool) (cs : List ℕ) (x : ℕ) → slice_get cs 0 ≡ Some x → p x ≡ false → prefix_len p cs ≡ 0
prefix_len-stop p [] x e f = refl
prefix_len-stop p (c ∷ cs) x e f =
    let same : c ≡ x = cc in
    rw (same, f) refl

prefix_len-none : (p : ℕ → Bool) (cs : List ℕ) → slice_get cs 0 ≡ None → prefix_len p cs ≡ 0
prefix_len-none p [] e = refl
prefix_len-none p (c ∷ cs) e = cc

passed-none : (c : Cursor) (n : ℕ) → n ≡ 0 → passed n c ≡ c
passed-none c n z = ap (λ (k : ℕ). let moved : Cursor = record { start = c.start; text = c.text; at = k } in moved) (let same : c.at + n ≡ c.at = omega arith in same)

passed-later : (c : Cursor) (m n : ℕ) → m ≡ 1 + n → passed m c ≡ passed n (passed 1 c)
passed-later c m n e = ap (λ (k : ℕ). let moved : Cursor = record { start = c.start; text = c.text; at = k } in moved) (let same : c.at + m ≡ c.at + 1 + n = omega arith in same)

pub passed-later-by : (c : Cursor) (m n k : ℕ) → m ≡ k + n → passed m c ≡ passed n (passed k c)
passed-later-by c m n k e = ap (λ (i : ℕ). let moved : Cursor = record { start = c.start; text = c.text; at = i } in moved) (let same : c.at + m ≡ c.at + k + n = omega arith in same)

rest-passed : (c : Cursor) → rest (passed 1 c) ≡ drop 1 (rest c)
rest-passed c = sym (drop-drop 1 c.at c.text)

pub run-step : (p : ℕ → Bool) (old now next : Cursor) (x : ℕ) → IsOnRun p old now → slice_get (rest now) 0 ≡ Some x → p x ≡ true → next ≡ passed 1 now → IsOnRun p old next
run-step p old now next x r e t moved =
    let more : prefix_len p (rest now) ≡ 1 + prefix_len p (rest (passed 1 now)) =
    rw (rest-passed now) (prefix_len-first p (rest now) x e t) in
    rw moved record {
      same_end = sym (passed-later now (prefix_len p (rest now)) (prefix_len p (rest (passed 1 now))) more) ∙ r.same_end;
      further = omega (arith, r.further);
    }

pub run-stop : (p : ℕ → Bool) (old now : Cursor) (x : ℕ) → IsOnRun p old now → slice_get (rest now) 0 ≡ Some x → p x ≡ false → now ≡ passed (prefix_len p (rest old)) old
run-stop p old now x r e f = sym (passed-none now _ (prefix_len-stop p (rest now) x e f)) ∙ r.same_end

pub run-end : (p : ℕ → Bool) (old now : Cursor) → IsOnRun p old now → slice_get (rest now) 0 ≡ None → now ≡ passed (prefix_len p (rest old)) old
run-end p old now r e = sym (passed-none now _ (prefix_len-none p (rest now) e)) ∙ r.same_end

-- how many characters stand before the place behind n of them
count_within-place : (cs : List ℕ) (n : ℕ) → count_within (byte_len (take n cs)) cs ≡ min n (length cs)
count_within-place [] zero = refl
count_within-place [] (suc n) = omega arith
count_within-place (c ∷ cs) zero = count_within-none c cs ∙ omega arith
count_within-place (c ∷ cs) (suc n) =
    rw (byte_len-cons c (take n cs), count_within-more c (byte_len (take n cs)) cs, count_within-place cs n)
    (omega arith)

take-min : (cs : List ℕ) (n : ℕ) → take (min n (length cs)) cs ≡ take n cs
take-min cs n = grind (arith, common_steps)

slice_range-min : (cs : List ℕ) (m n : ℕ) → slice_range cs (min m (length cs)) (min n (length cs)) ≡ slice_range cs m n
slice_range-min cs m n =
    ⊎_elim
    (λ h. let m_le : m ≤ length cs = h.1 in
    let first : min m (length cs) ≡ m = omega arith in
    let last : min n (length cs) - m ≡ min (n - m) (length (drop m cs)) = omega (arith, length-drop m cs) in
    rw (first, last) (take-min (drop m cs) (n - m)))
    (λ h. let m_gt : length cs < m = h.1 in
    let first : length cs ≤ min m (length cs) = omega arith in
    let second : length cs ≤ m = omega arith in
    rw (drop_of_length-le cs first, drop_of_length-le cs second) (take-nil _ ∙ sym (take-nil _)))
    (leb_tells m (length cs))

index_of-place : (c : Cursor) (n : ℕ) → index_of c (place_at c n) ≡ min n (length c.text)
index_of-place c n =
    let off : place_at c n - c.start ≡ byte_len (take n c.text) = omega arith in
    rw off (count_within-place c.text n)

-- the text between the places behind m and n characters
pub slice-places : (c : Cursor) (m n : ℕ) → slice_range c.text (index_of c (place_at c m)) (index_of c (place_at c n)) ≡ slice_range c.text m n
slice-places c m n = rw (index_of-place c m, index_of-place c n) (slice_range-min c.text m n)

-- a place further on is no smaller
pub place_at-le : (c : Cursor) (m n : ℕ) → m ≤ n → place_at c m ≤ place_at c n
place_at-le c m n l =
    let sum : m + (n - m) ≡ n = omega arith in
    let cut = rw sum at (take-add m (n - m) c.text) in
    let bytes = ap byte_len cut ∙ ap length (encodes-append (take m c.text) (slice_range c.text m n)) in
    omega (arith, bytes, length-append (encode_utf8_all (take m c.text)) (encode_utf8_all (slice_range c.text m n)))

-- the test q passes at some character of the run: at one that was read, as the flag says, or at one that is left
unfoldable pub FlagsRun : (ℕ → Bool) → (ℕ → Bool) → Bool → Cursor → Cursor → Type 0
FlagsRun p q flag old now = (flag || list_any q (take_while p (rest now))) ≡ list_any q (take_while p (rest old))

or-assoc : (x y z : Bool) → ((x || y) || z) ≡ (x || (y || z))
or-assoc true y z = refl
or-assoc false y z = refl

or-false : (x : Bool) → (x || false) ≡ x
or-false true = refl
or-false false = refl

list_any-first : (p q : ℕ → Bool) (cs : List ℕ) (x : ℕ) → slice_get cs 0 ≡ Some x → p x ≡ true → list_any q (take_while p cs) ≡ (q x || list_any q (take_while p (drop 1 cs)))
list_any-first p q [] x e t = cc
list_any-first p q (c ∷ cs) x e t =
    let same : c ≡ x = cc in
    rw (take_while-cons p c cs, same, t) refl

pub flag-step : (p q : ℕ → Bool) (flag is : Bool) (old now next : Cursor) (x : ℕ) → FlagsRun p q flag old now → slice_get (rest now) 0 ≡ Some x → p x ≡ true → is ≡ q x → next ≡ passed 1 now → FlagsRun p q (flag || is) old next
unfolding FlagsRun
flag-step p q flag is old now next x r e t test moved =
    rw (moved, test, or-assoc flag (q x) (list_any q (take_while p (rest (passed 1 now)))), rest-passed now, ← list_any-first p q (rest now) x e t) r

pub flag-stop : (p q : ℕ → Bool) (flag : Bool) (old now : Cursor) (x : ℕ) → FlagsRun p q flag old now → slice_get (rest now) 0 ≡ Some x → p x ≡ false → flag ≡ list_any q (take_while p (rest old))
unfolding FlagsRun
flag-stop p q flag old now x r e f =
    let none = rw (prefix_len-stop p (rest now) x e f) at r in
    sym (or-false flag) ∙ none

pub flag-end : (p q : ℕ → Bool) (flag : Bool) (old now : Cursor) → FlagsRun p q flag old now → slice_get (rest now) 0 ≡ None → flag ≡ list_any q (take_while p (rest old))
unfolding FlagsRun
flag-end p q flag old now r e =
    let none = rw (prefix_len-none p (rest now) e) at r in
    sym (or-false flag) ∙ none

pub flag-start : (p q : ℕ → Bool) (c : Cursor) → FlagsRun p q false c c
unfolding FlagsRun
flag-start p q c = refl

-- along a run the cursor's place does not fall
pub run-place-le : (p : ℕ → Bool) (old now : Cursor) → IsOnRun p old now → place old ≤ place now
run-place-le p old now r =
    let start : now.start ≡ old.start = ap (λ (c : Cursor). c.start) r.same_end in
    let text : now.text ≡ old.text = ap (λ (c : Cursor). c.text) r.same_end in
    rw (start, text) (place_at-le old old.at now.at r.further)

-- the text between where a cursor stood and where it stands
pub text-passed : (old now : Cursor) (n from to : ℕ) → now ≡ passed n old → from ≡ place old → to ≡ place now → encode_utf8_all (slice_range now.text (index_of now from) (index_of now to)) ≡ encode_utf8_all (take n (rest old))
text-passed old now n from to moved f t =
    let less : old.at + n - old.at ≡ n = omega arith in
    rw (f, t, moved) (ap encode_utf8_all (rw less at (slice-places old old.at (old.at + n))))

-- the cursor moved on in its text, or stayed
pub record IsFurther (old now : Cursor) : Type 0 where
  pub start : now.start ≡ old.start
  pub text : now.text ≡ old.text
  pub further : old.at ≤ now.at

pub further-start : (c : Cursor) → IsFurther c c
further-start c = record { start = refl; text = refl; further = omega arith }

pub further-step : (old now next : Cursor) (n : ℕ) → IsFurther old now → next ≡ passed n now → IsFurther old next
further-step old now next n f e = rw e record { start = f.start; text = f.text; further = omega (arith, f.further) }

pub further-place-le : (old now : Cursor) → IsFurther old now → place old ≤ place now
further-place-le old now f = rw (f.start, f.text) (place_at-le old old.at now.at f.further)

-- the cursor's place is a place of the text for as long as it moves on
pub further-HasPlace : (old now : Cursor) (p : ℕ) → IsFurther old now → p ≡ place old → HasPlace now p
further-HasPlace old now p f e = rw (f.start, f.text) (old.at, e)

-- the cursor comes back to where it stood, before a character
pub further-back : (old now : Cursor) (c p : ℕ) → IsFurther old now → p ≡ place old → slice_get (rest old) 0 ≡ Some c → moved_to (index_of now p) now ≡ old
further-back old now c p f e first =
    let within : old.at ≤ length old.text = omega (arith, length-drop old.at old.text, ap length (first-cons (rest old) c first)) in
    let off : p - old.start ≡ byte_len (take old.at old.text) = omega (arith, e) in
    let index : index_of old p ≡ old.at = ap (λ (k : ℕ). count_within k old.text) off ∙ count_within-byte_len old.text old.at within in
    rw (f.start, f.text) (ap (λ (i : ℕ). moved_to i old) index)

pub ruleset runs = (further-start, further-step, further-place-le, run-start, run-step, run-stop, run-end, flag-start, flag-step, flag-stop, flag-end, run-place-le, text-passed)
