-- Runs of ASCII white space as white space, by lanes of bytes.
use Rattle.std.proofs.Common.{◌≡◌, ℕ, ◌+◌, ◌≤◌, ◌<◌, cond, Bool, true, false, List, [], ◌∷◌, ◌++◌, take, drop, length, length-drop, refl, sym, ap, ap₂, subst, ◌∙◌, arith, zero, suc, encode_utf8, encode_utf8_all, drop-drop, one-add, ◌||◌, nat_le, nat_lt, IsTrue, ◌↔◌, Some, slice_get, ⊎_elim}
use Rattle.std.specs.List.{prefix_len, take_while, list_any}
use Rattle.std.proofs.lemmas.List.Sums.{take_while-cons, prefix_len-le-length}
use Rattle.std.proofs.lemmas.Bool.Decides.{nat_tests, leb_tells}
use Rattle.ecma_place.specs.Text.{Text, count_within}
use Rattle.ecma_place.specs.Cursor.{Cursor, rest, passed, ascii_of}
use Rattle.ecma_place.specs.Character.{is_white_space, is_line_terminator}
use Rattle.ecma_place.specs.Run.{is_white_byte, ends_line}
use Rattle.std.proofs.lemmas.Str.{char_from_byte, encode_ascii}
use Rattle.ecma_place.proofs.ChunkLemmas.{white_ascii, chunk-within, chunk-chars, chunk-count}
use Rattle.ecma_place.proofs.RunLemmas.{IsOnRun, FlagsRun, passed-later-by}
use Rattle.ecma_grammar.specs.Fronts.{next_passes}
use Rattle.ecma_grammar.proofs.LineLemmas.{Stops}
use Rattle.ecma_grammar.proofs.PunctuatorLemmas.{rest-bumped}
use Rattle.std.proofs.Math.Bool.{or-false}

-- bytes of a class of ASCII begin no other character
pub ascii-stops : (p : ℕ → Bool) → ((b : ℕ) → p b ≡ true → b < 128) → Stops p p
ascii-stops p low c ys e = go (encode_utf8 c ++ ys) refl
  where
    here : (b : ℕ) (more : List ℕ) → b ∷ more ≡ encode_utf8 c ++ ys → (x : Bool) → p b ≡ x → prefix_len p (b ∷ more) ≡ 0
    here b more same false h = rw h refl
    here b more same true h =
        let char : c ≡ b = char_from_byte (b ∷ more) ys c same (low b h) (omega arith) in
        let no : true ≡ false = sym h ∙ ap p (sym char) ∙ e in
        cc

    go : (bs : List ℕ) → bs ≡ encode_utf8 c ++ ys → prefix_len p bs ≡ 0
    go [] same = refl
    go (b ∷ more) same = here b more same (p b) refl

-- what is ASCII white space is white space, and a line terminator where it is CR or LF

pub white-byte : (b : ℕ) → b < 128 → is_white_space b ≡ is_white_byte b
unfolding is_white_space is_line_terminator
white-byte b l = grind (arith, nat_tests)

ends-line : (b : ℕ) → is_white_byte b ≡ true → is_line_terminator b ≡ ends_line b
unfolding is_line_terminator
ends-line b h = grind (arith, nat_tests)

or-assoc : (x y z : Bool) → ((x || y) || z) ≡ (x || (y || z))
or-assoc true y z = refl
or-assoc false y z = refl

-- the lanes v at a text, and what the text goes on with behind those that are white space
record WhiteLanes (v : List ℕ) (cs : Text) : Type 0 where
  pub longer : prefix_len is_white_space cs ≡ prefix_len is_white_byte v + prefix_len is_white_space (drop (prefix_len is_white_byte v) cs)
  pub flags : (list_any ends_line (take_while is_white_byte v) || list_any is_line_terminator (take_while is_white_space (drop (prefix_len is_white_byte v) cs)))
      ≡ list_any is_line_terminator (take_while is_white_space cs)

lanes-none : (v : List ℕ) (cs : Text) → prefix_len is_white_byte v ≡ 0 → WhiteLanes v cs
lanes-none [] cs e = record { longer = omega arith; flags = refl }
lanes-none (x ∷ v) cs e = go (is_white_byte x) refl e
  where
    go : (b : Bool) → is_white_byte x ≡ b → cond b (1 + prefix_len is_white_byte v) 0 ≡ 0 → WhiteLanes (x ∷ v) cs
    go true h z = absurd (omega (arith, z))
    go false h z =
        let none : take_while is_white_byte (x ∷ v) ≡ [] = take_while-cons is_white_byte x v ∙ ap (λ (b : Bool). cond b (x ∷ take_while is_white_byte v) []) h in
        record {
          longer = rw e (omega arith);
          flags = rw (none, e) refl;
        }

lanes-more : (c : ℕ) (v : List ℕ) (cs : Text) → is_white_byte c ≡ true → WhiteLanes v cs → WhiteLanes (c ∷ v) (c ∷ cs)
lanes-more c v cs t more =
    let k : ℕ = prefix_len is_white_byte v in
    let white : is_white_space c ≡ true = white-byte c (white_ascii c t) ∙ t in
    let size : prefix_len is_white_byte (c ∷ v) ≡ suc k = ap (λ (b : Bool). cond b (1 + k) 0) t ∙ one-add k in
    let whole : take_while is_white_space (c ∷ cs) ≡ c ∷ take_while is_white_space cs = take_while-cons is_white_space c cs ∙ ap (λ (b : Bool). cond b (c ∷ take_while is_white_space cs) []) white in
    let part : take_while is_white_byte (c ∷ v) ≡ c ∷ take_while is_white_byte v = take_while-cons is_white_byte c v ∙ ap (λ (b : Bool). cond b (c ∷ take_while is_white_byte v) []) t in
    let longer : prefix_len is_white_space (c ∷ cs) ≡ suc k + prefix_len is_white_space (drop k cs) =
    ap (λ (b : Bool). cond b (1 + prefix_len is_white_space cs) 0) white ∙ omega (arith, more.longer) in
    record {
      longer = rw size longer;
      flags =
          ap₂ (λ (ts : List ℕ) (j : ℕ). list_any ends_line ts || list_any is_line_terminator (take_while is_white_space (drop j (c ∷ cs)))) part size
          ∙ or-assoc (ends_line c) _ _ ∙ ap (λ (b : Bool). ends_line c || b) more.flags
          ∙ ap (λ (b : Bool). b || list_any is_line_terminator (take_while is_white_space cs)) (sym (ends-line c t)) ∙ ap (list_any is_line_terminator) (sym whole);
    }

white-lanes : (n : ℕ) (cs : Text) (v : List ℕ) → v ≡ take n (encode_utf8_all cs) → WhiteLanes v cs
white-lanes zero cs v e = lanes-none v cs (ap (prefix_len is_white_byte) e)
white-lanes (suc n) [] v e = lanes-none v [] (ap (prefix_len is_white_byte) e)
white-lanes (suc n) (c ∷ cs) v e = go (is_white_byte c) refl (white-lanes n cs (take n (encode_utf8_all cs)) refl)
  where
    go : (b : Bool) → is_white_byte c ≡ b → WhiteLanes (take n (encode_utf8_all cs)) cs → WhiteLanes v (c ∷ cs)
    go true t more =
        let lanes : v ≡ c ∷ take n (encode_utf8_all cs) = e ∙ ap (λ (bs : List ℕ). take (suc n) (bs ++ encode_utf8_all cs)) (encode_ascii c (white_ascii c t)) in
        rw lanes (lanes-more c (take n (encode_utf8_all cs)) cs t more)
    go false f more =
        let none = ascii-stops is_white_byte white_ascii c (encode_utf8_all cs) f in
        lanes-none v (c ∷ cs) (omega (arith, none, chunk-within is_white_byte (suc n) (prefix_len is_white_byte v) (encode_utf8_all (c ∷ cs)) (ap (prefix_len is_white_byte) e)))

behind : (c : Cursor) (k : ℕ) → rest (passed k c) ≡ drop k (rest c)
behind c k = sym (drop-drop k c.at c.text)

-- a step over the white space among 16 bytes

chunk-behind : (now next : Cursor) (n : ℕ) (v : List ℕ) → v ≡ take 16 (encode_utf8_all (rest now)) → n ≡ prefix_len is_white_byte v → next ≡ passed (count_within n (rest now)) now → next ≡ passed n now
chunk-behind now next n v e count moved =
    moved ∙ ap (λ (k : ℕ). passed k now) (chunk-count is_white_byte 16 n (rest now) white_ascii (count ∙ ap (prefix_len is_white_byte) e))

pub chunk-run-on : (old now next : Cursor) (n : ℕ) (v : List ℕ) → v ≡ take 16 (encode_utf8_all (rest now)) → n ≡ prefix_len is_white_byte v → next ≡ passed (count_within n (rest now)) now
    → IsOnRun is_white_space old now → IsOnRun is_white_space old next
chunk-run-on old now next n v e count moved on =
    let longer = subst (λ (k : ℕ). prefix_len is_white_space (rest now) ≡ k + prefix_len is_white_space (drop k (rest now))) (sym count) (white-lanes 16 (rest now) v e).longer in
    let sum : prefix_len is_white_space (rest now) ≡ n + prefix_len is_white_space (rest (passed n now)) = rw (behind now n) longer in
    rw (chunk-behind now next n v e count moved) record { same_end = sym (passed-later-by now _ _ n sum) ∙ on.same_end; further = omega (arith, on.further) }

pub chunk-flags-on : (flag ends : Bool) (old now next : Cursor) (n : ℕ) (v : List ℕ) → v ≡ take 16 (encode_utf8_all (rest now)) → n ≡ prefix_len is_white_byte v → ends ≡ list_any ends_line (take_while is_white_byte v)
    → next ≡ passed (count_within n (rest now)) now → FlagsRun is_white_space is_line_terminator flag old now → FlagsRun is_white_space is_line_terminator (flag || ends) old next
unfolding FlagsRun
chunk-flags-on flag ends old now next n v e count is moved on =
    let flags = ap₂ (λ (b : Bool) (k : ℕ). b || list_any is_line_terminator (take_while is_white_space (drop k (rest now)))) is count ∙ (white-lanes 16 (rest now) v e).flags in
    let left : rest next ≡ drop n (rest now) = ap (λ (c : Cursor). rest c) (chunk-behind now next n v e count moved) ∙ behind now n in
    ap (λ (t : Text). (flag || ends) || list_any is_line_terminator (take_while is_white_space t)) left ∙ or-assoc flag ends _ ∙ ap (λ (b : Bool). flag || b) flags ∙ on

-- behind 16 bytes of white space less is left
pub chunk-shorter : (now next : Cursor) (n : ℕ) (v : List ℕ) → v ≡ take 16 (encode_utf8_all (rest now)) → n ≡ prefix_len is_white_byte v → next ≡ passed (count_within n (rest now)) now → 16 ≤ n
    → length (rest next) < length (rest now)
chunk-shorter now next n v e count moved some =
    let within = chunk-chars is_white_byte 16 n (rest now) white_ascii (count ∙ ap (prefix_len is_white_byte) e) in
    let bound = prefix_len-le-length is_white_byte (rest now) in
    rw (chunk-behind now next n v e count moved, behind now n) (omega (arith, length-drop n (rest now), within, bound, some))

-- where no white space follows

none-passes : (p : ℕ → Bool) (text : Text) → next_passes p text ≡ false → prefix_len p text ≡ 0
none-passes p [] e = refl
none-passes p (c ∷ cs) e = rw e refl

none-taken : (p : ℕ → Bool) (text : Text) → next_passes p text ≡ false → take_while p text ≡ []
none-taken p [] e = refl
none-taken p (c ∷ cs) e = rw (take_while-cons p c cs, e) refl

pub white-ends : (old now : Cursor) → IsOnRun is_white_space old now → next_passes is_white_space (rest now) ≡ false → now ≡ passed (prefix_len is_white_space (rest old)) old
white-ends old now on e =
    let none = none-passes is_white_space (rest now) e in
    let same : now.at ≡ now.at + prefix_len is_white_space (rest now) = omega (arith, none) in
    ap (λ (n : ℕ). let moved : Cursor = record { start = now.start; text = now.text; at = n } in moved) same ∙ on.same_end

pub white-ends-flag : (flag : Bool) (old now : Cursor) → FlagsRun is_white_space is_line_terminator flag old now → next_passes is_white_space (rest now) ≡ false
    → flag ≡ list_any is_line_terminator (take_while is_white_space (rest old))
unfolding FlagsRun
white-ends-flag flag old now on e =
    sym (or-false flag) ∙ ap (λ l. flag || list_any is_line_terminator l) (sym (none-taken is_white_space (rest now) e)) ∙ on

-- behind a space ASCII has no white space
past-space : (b : ℕ) → b < 128 → 32 < b → is_white_space b ≡ false
unfolding is_white_space is_line_terminator
past-space b l h = grind (arith, nat_tests)

pub next-past-space : (cs : Text) (b : ℕ) → ascii_of (slice_get cs 0) ≡ Some b → 32 < b → next_passes is_white_space cs ≡ false
next-past-space [] b e h = cc
next-past-space (c ∷ cs) b e h = ⊎_elim
    (λ (high : (nat_le 128 c ≡ true) × (128 ≤ c)). let past : nat_lt c 128 ≡ false = grind (arith, nat_tests, high.1) in cc)
    (λ (low : (nat_le 128 c ≡ false) × (c < 128)).
    let short : nat_lt c 128 ≡ true = grind (arith, nat_tests, low.1) in
    let same : c ≡ b = cc in
    past-space c low.1 (omega (arith, same, h)))
    (leb_tells 128 c)

-- so there the white space ends

pub past-ends : (old now : Cursor) (b : ℕ) → Some b ≡ ascii_of (slice_get (rest now) 0) → 32 < b → passed (prefix_len is_white_space (rest now)) now ≡ passed (prefix_len is_white_space (rest old)) old
    → now ≡ passed (prefix_len is_white_space (rest old)) old
past-ends old now b e h same_end =
    let none = none-passes is_white_space (rest now) (next-past-space (rest now) b (sym e) h) in
    let same : now.at ≡ now.at + prefix_len is_white_space (rest now) = omega (arith, none) in
    ap (λ (n : ℕ). let moved : Cursor = record { start = now.start; text = now.text; at = n } in moved) same ∙ same_end

pub past-flag : (flag : Bool) (old now : Cursor) (b : ℕ) → Some b ≡ ascii_of (slice_get (rest now) 0) → 32 < b
    → (flag || list_any is_line_terminator (take_while is_white_space (rest now))) ≡ list_any is_line_terminator (take_while is_white_space (rest old)) → flag ≡ list_any is_line_terminator (take_while is_white_space (rest old))
past-flag flag old now b e h on =
    let none = none-taken is_white_space (rest now) (next-past-space (rest now) b (sym e) h) in
    sym (or-false flag) ∙ ap (λ (l : List ℕ). flag || list_any is_line_terminator l) (sym none) ∙ on

pub ruleset white_bytes = (white-byte)

-- white space of which a space was passed first, if it begins with one
pub spaced : (old mid now : Cursor) (ate result : Bool) → (IsTrue ate ↔ (slice_get (rest old) 0 ≡ Some 32)) → mid ≡ cond ate (passed 1 old) old
    → result ≡ list_any is_line_terminator (take_while is_white_space (rest mid)) → now ≡ passed (prefix_len is_white_space (rest mid)) mid
    → (result ≡ list_any is_line_terminator (take_while is_white_space (rest old))) × (now ≡ passed (prefix_len is_white_space (rest old)) old)
spaced old mid now false result is moved said passes = (
  said ∙ ap (λ (c : Cursor). list_any is_line_terminator (take_while is_white_space (rest c))) moved,
  passes ∙ ap (λ (c : Cursor). passed (prefix_len is_white_space (rest c)) c) moved,
)
spaced old mid now true result is moved said passes =
    let text : 32 ∷ rest mid ≡ rest old = rest-bumped old mid 32 (is.0 refl) moved in
    let one = lanes-more 32 [] (rest mid) refl (lanes-none [] (rest mid) refl) in
    let k = prefix_len is_white_space (rest mid) in
    let more : prefix_len is_white_space (rest old) ≡ 1 + k = ap (prefix_len is_white_space) (sym text) ∙ one.longer in (
      said ∙ one.flags ∙ ap (λ t. list_any is_line_terminator (take_while is_white_space t)) text,
      passes ∙ ap (λ (c : Cursor). passed k c) moved ∙ sym (passed-later-by old (prefix_len is_white_space (rest old)) k 1 more),
    )
