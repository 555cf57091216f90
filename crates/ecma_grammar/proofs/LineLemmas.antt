-- Runs of bytes of a class as runs of characters, and the line at a cursor.
use Rattle.std.proofs.Common.{◌≡◌, ℕ, ◌+◌, ◌-◌, ◌≤◌, cond, Bool, true, false, List, [], ◌∷◌, ◌++◌, length, take, drop, slice_range, refl, sym, ap, ◌∙◌, arith, zero, suc, true≢false, encode_utf8, encode_utf8_all, drop-drop, ⊎_elim, not, eqb-true}
use Rattle.std.specs.Prelude.{◌==◌, ◌||◌}
use Rattle.std.specs.List.{prefix_len}
use Rattle.std.specs.Char.{len_utf8}
use Rattle.std.proofs.lemmas.Bool.Decides.{leb_tells}
use Rattle.std.proofs.lemmas.Str.{len_utf8_bounds, length-encode}
use Rattle.ecma_place.specs.Text.{Text, count_within}
use Rattle.ecma_place.specs.Cursor.{Cursor, rest, place, passed, index_of}
use Rattle.ecma_place.specs.Character.{is_line_terminator}
use Rattle.ecma_place.specs.Run.{is_in_class}
use Rattle.ecma_place.specs.declared.run.ByteClass.TheVariants.{Line}
use Rattle.ecma_place.proofs.CursorLemmas.{count_within-more}
use Rattle.ecma_place.proofs.RunLemmas.{IsOnRun, passed-later-by, text-passed, runs}
use Rattle.ecma_grammar.specs.Fronts.{in_line, line}
use Rattle.ecma_grammar.proofs.Fronts.{front-is, length-take_while, take_while-front}

-- a run in two texts in a row is no longer than the first and the run in the second
run-append-le : (p : ℕ → Bool) (xs ys : List ℕ) → prefix_len p (xs ++ ys) ≤ length xs + prefix_len p ys
run-append-le p [] ys = omega arith
run-append-le p (a ∷ xs) ys = go (p a) refl (run-append-le p xs ys)
  where
    go : (x : Bool) → p a ≡ x → prefix_len p (xs ++ ys) ≤ length xs + prefix_len p ys → prefix_len p ((a ∷ xs) ++ ys) ≤ length (a ∷ xs) + prefix_len p ys
    go true e more = rw e (omega (arith, more))
    go false e more = rw e (omega arith)

-- no byte of the class begins a character that fails
abbrev pub Stops : (ℕ → Bool) → (ℕ → Bool) → Type 0
Stops p q = (c : ℕ) (ys : List ℕ) → q c ≡ false → prefix_len p (encode_utf8 c ++ ys) ≡ 0

-- the characters whole within a run of bytes pass
pub within-run : (p q : ℕ → Bool) → Stops p q → (cs : Text) (n : ℕ) → n ≤ prefix_len p (encode_utf8_all cs) → count_within n cs ≤ prefix_len q cs
within-run p q stops [] n l = omega arith
within-run p q stops (c ∷ cs) n l = ⊎_elim
    (λ h. here (q c) refl h.1 (n - len_utf8 c) (omega (arith, h.1)) (within-run p q stops cs (n - len_utf8 c)))
    (λ h. rw (ap (λ b. cond b (1 + count_within (n - len_utf8 c) cs) 0) h.0) (omega arith))
    (leb_tells (len_utf8 c) n)
  where
    here : (b : Bool) → q c ≡ b → len_utf8 c ≤ n → (m : ℕ) → n ≡ len_utf8 c + m → (m ≤ prefix_len p (encode_utf8_all cs) → count_within m cs ≤ prefix_len q cs)
        → count_within n (c ∷ cs) ≤ prefix_len q (c ∷ cs)
    here false e fits m sum more = absurd (omega (arith, l, fits, stops c (encode_utf8_all cs) e, len_utf8_bounds c))
    here true e fits m sum more =
        let less : m ≤ prefix_len p (encode_utf8_all cs) = omega (arith, l, sum, run-append-le p (encode_utf8 c) (encode_utf8_all cs), length-encode c) in
        rw (sum, count_within-more c m cs, e) (let rest_of = more less in omega (arith, rest_of))

-- a run, cut within
pub run-cut : (q : ℕ → Bool) (k : ℕ) (cs : Text) → k ≤ prefix_len q cs → prefix_len q cs ≡ k + prefix_len q (drop k cs)
run-cut q zero cs l = omega arith
run-cut q (suc k) [] l = absurd (omega (arith, l))
run-cut q (suc k) (c ∷ cs) l = go (q c) refl l (run-cut q k cs)
  where
    go : (b : Bool) → q c ≡ b → suc k ≤ prefix_len q (c ∷ cs) → (k ≤ prefix_len q cs → prefix_len q cs ≡ k + prefix_len q (drop k cs)) → prefix_len q (c ∷ cs) ≡ suc k + prefix_len q (drop k cs)
    go true e more ih =
        let less = rw e at more in
        let cut = ih (omega (arith, less)) in
        rw e (omega (arith, cut))
    go false e more ih = absurd (let less = rw e at more in omega (arith, less))

-- where the run goes on behind the characters within a run of bytes
pub bytes-jump : (p q : ℕ → Bool) → Stops p q → (old now next : Cursor) (n : ℕ) → IsOnRun q old now → n ≡ prefix_len p (encode_utf8_all (rest now)) → next ≡ passed (count_within n (rest now)) now
    → IsOnRun q old next
bytes-jump p q stops old now next n on e moved =
    let k : ℕ = count_within n (rest now) in
    let within : k ≤ prefix_len q (rest now) = within-run p q stops (rest now) n (omega (arith, e)) in
    let behind : rest (passed k now) ≡ drop k (rest now) = sym (drop-drop k now.at now.text) in
    let sum : prefix_len q (rest now) ≡ k + prefix_len q (rest (passed k now)) = rw behind (run-cut q k (rest now) within) in
    rw moved record { same_end = sym (passed-later-by now _ _ k sum) ∙ on.same_end; further = omega (arith, on.further) }

line-stops : Stops (is_in_class Line) in_line
unfolding is_line_terminator lib.Utf8.encode
line-stops c ys e = go (c == 13) (c == 10) (c == 0x2028) (c == 0x2029) refl refl refl refl e
  where
    go : (x y z w : Bool) → (c == 13) ≡ x → (c == 10) ≡ y → (c == 0x2028) ≡ z → (c == 0x2029) ≡ w → not (((x || y) || z) || w) ≡ false → prefix_len (is_in_class Line) (encode_utf8 c ++ ys) ≡ 0
    go true y z w a b d f e = rw (eqb-true c 13 a) refl
    go false true z w a b d f e = rw (eqb-true c 10 b) refl
    go false false true w a b d f e = rw (eqb-true c 0x2028 d) refl
    go false false false true a b d f e = rw (eqb-true c 0x2029 f) refl
    go false false false false a b d f e = absurd (true≢false e)

pub line-jump : (old now next : Cursor) (n : ℕ) → IsOnRun in_line old now → n ≡ prefix_len (is_in_class Line) (encode_utf8_all (rest now)) → next ≡ passed (count_within n (rest now)) now
    → IsOnRun in_line old next
line-jump old now next n on e moved = bytes-jump (is_in_class Line) in_line line-stops old now next n on e moved

-- the line, by the run

pub line-length : (text : Text) → length (line text) ≡ prefix_len in_line text
line-length text = ap length (front-is in_line text) ∙ length-take_while in_line text

pub line-front : (text : Text) → take (prefix_len in_line text) text ≡ line text
line-front text = ap (λ n. take n text) (sym (length-take_while in_line text)) ∙ take_while-front in_line text ∙ sym (front-is in_line text)

pub line-text : (old now : Cursor) (from to : ℕ) → now ≡ passed (prefix_len in_line (rest old)) old → from ≡ place old → to ≡ place now
    → encode_utf8_all (slice_range now.text (index_of now from) (index_of now to)) ≡ encode_utf8_all (line (rest old))
line-text old now from to moved f t = text-passed old now _ from to moved f t ∙ ap encode_utf8_all (line-front (rest old))

pub ruleset lines = (runs, line-jump, line-length, line-text)
