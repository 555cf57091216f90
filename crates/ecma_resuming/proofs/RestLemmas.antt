-- Places of a text, and the same places of its rest.
use Rattle.std.proofs.Common.{◌≡◌, ◌∙◌, ℕ, ◌+◌, ◌-◌, ◌≤◌, ◌<◌, Bool, true, false, ◌++◌, Option, Some, None, arith, cond, length, take, drop, nat_lt, refl, sym, ap, subst, ⊎_elim, append-nil, take-append-drop, drop_of_length-le}
use Rattle.std.proofs.Math.Seq.{take-append-add, drop-append-add, take-length}
use Rattle.std.proofs.lemmas.Bool.{ltb-false, ltb-true}
use Rattle.std.proofs.lemmas.Bool.Decides.{leb_tells}
use Rattle.std.proofs.lemmas.List.{length-append, take-append-le}
use Rattle.ecma_place.specs.Cursor.{Cursor, HasPlace, index_of, place, place_at, rest}
use Rattle.ecma_place.specs.Text.{Text, byte_len, place_of}
use Rattle.ecma_place.specs.declared.place.BytePos.{BytePos}
use Rattle.ecma_place.proofs.MoveLemmas.{byte_len-append}
use Rattle.ecma_grammar.specs.Expressions.{opens_expression}
use Rattle.ecma_state.specs.Run.{at_place}
use Rattle.ecma_reads.proofs.SlashLemmas.{at-index, place-there}
use Rattle.ecma_state.specs.State.{last_slash}
use Rattle.ecma_state.specs.Slashes.{StandsSlash}
use Rattle.ecma_resuming.specs.Resuming.{IsRestOf, RestsAreThere, begin_of, or_slash, rest_of}

-- cursors before which the same stands at the same place
pub record Alike (a b : Cursor) : Type 0 where
  pub left : rest a ≡ rest b
  pub stands : place a ≡ place b

take-all : (text : Text) (n : ℕ) → length text ≤ n → take n text ≡ text
take-all text n h = sym (append-nil (take n text)) ∙ ap (λ d. take n text ++ d) (sym (drop_of_length-le text h)) ∙ take-append-drop n text

-- a place of a text stands behind some of its characters, and not behind more than there are
record Stands (c : Cursor) (p : ℕ) : Type 0 where
  count : ℕ
  within : count ≤ length c.text
  there : p ≡ place_at c count

stands-at : (c : Cursor) (p : ℕ) → HasPlace c p → Stands c p
stands-at c p (n, e) =
    ⊎_elim
    (λ h. record { count = n; within = h.1; there = e })
    (λ h. let far : length c.text < n = h.1 in
    record {
      count = length c.text;
      within = omega arith;
      there = e ∙ ap (place_of c.start) (take-all c.text n (omega (arith, far)) ∙ sym (take-length c.text));
    })
    (leb_tells n (length c.text))

-- a place in the rest is one of the whole text, behind the front too
there-too : (part whole : Cursor) (n : ℕ) (is : IsRestOf part whole) → place_at part n ≡ place_at whole (length is.front + n)
there-too part whole n is =
    let cut : take (length is.front + n) whole.text ≡ is.front ++ take n part.text = ap (take (length is.front + n)) is.text ∙ take-append-add is.front part.text n in
    let sum : byte_len (take (length is.front + n) whole.text) ≡ byte_len is.front + byte_len (take n part.text) = ap byte_len cut ∙ byte_len-append is.front (take n part.text) in
    omega (arith, is.begin, sum)

length-whole : (part whole : Cursor) (is : IsRestOf part whole) → length whole.text ≡ length is.front + length part.text
length-whole part whole is = ap length is.text ∙ length-append is.front part.text

-- there the same stands in both
pub alike-at : (part whole : Cursor) (p : BytePos) → IsRestOf part whole → HasPlace part p.0 → Alike (at_place p part) (at_place p whole)
alike-at part whole p is has =
    let s = stands-at part p.0 has in
    let n = s.count in
    let there : p.0 ≡ place_at whole (length is.front + n) = s.there ∙ there-too part whole n is in
    let small : length is.front + n ≤ length whole.text = omega (arith, s.within, length-whole part whole is) in
    let in_part : index_of part p.0 ≡ n = at-index part p n s.within s.there in
    let in_whole : index_of whole p.0 ≡ length is.front + n = at-index whole p (length is.front + n) small there in
    record {
      left =
          ap (λ k. drop k part.text) in_part
          ∙ sym (drop-append-add is.front part.text n)
          ∙ ap (drop (length is.front + n)) (sym is.text)
          ∙ ap (λ k. drop k whole.text) (sym in_whole);
      stands = place-there part p has ∙ sym (place-there whole p (length is.front + n, there));
    }

-- a cursor that is put where it is
pub alike-back : (c : Cursor) → Alike (at_place (record { 0 = place c }) c) c
alike-back c = record { left = left; stands = place-there c (record { 0 = place c }) (c.at, refl) }
  where
    left : rest (at_place (record { 0 = place c }) c) ≡ rest c
    left =
        ⊎_elim
        (λ h. ap (λ n. drop n c.text) (at-index c (record { 0 = place c }) c.at h.1 refl))
        (λ h. let far : length c.text < c.at = h.1 in
        let whole : place c ≡ place_at c (length c.text) = ap (place_of c.start) (take-all c.text c.at (omega (arith, far)) ∙ sym (take-length c.text)) in
        ap (λ n. drop n c.text) (at-index c (record { 0 = place c }) (length c.text) (omega arith) whole)
        ∙ drop_of_length-le c.text (omega arith)
        ∙ sym (drop_of_length-le c.text (omega (arith, far))))
        (leb_tells c.at (length c.text))

pub alike-further : (a b c : Cursor) → Alike a b → Alike b c → Alike a c
alike-further a b c one two = record { left = one.left ∙ two.left; stands = one.stands ∙ two.stands }

-- Where the rest begins

-- a place of the whole text that is not before the rest is one of the rest
pub has-in-rest : (part whole : Cursor) (p : ℕ) → IsRestOf part whole → HasPlace whole p → part.start ≤ p → HasPlace part p
has-in-rest part whole p is has behind =
    let s = stands-at whole p has in
    ⊎_elim (λ h. far s h.1) (λ h. near s h.1) (leb_tells (length is.front) s.count)
  where
    far : (s : Stands whole p) → length is.front ≤ s.count → HasPlace part p
    far s h =
        let m = s.count - length is.front in
        let sum : length is.front + m ≡ s.count = omega (arith, h) in
        (m, s.there ∙ ap (place_at whole) (sym sum) ∙ sym (there-too part whole m is))

    near : (s : Stands whole p) → s.count < length is.front → HasPlace part p
    near s h =
        let front : take s.count whole.text ≡ take s.count is.front =
        ap (take s.count) is.text ∙ take-append-le s.count is.front part.text (omega (arith, h)) in
        let cut : byte_len is.front ≡ byte_len (take s.count is.front) + byte_len (drop s.count is.front) =
        ap byte_len (sym (take-append-drop s.count is.front)) ∙ byte_len-append (take s.count is.front) (drop s.count is.front) in
        let before : p ≡ whole.start + byte_len (take s.count is.front) = s.there ∙ ap (place_of whole.start) front in
        let none : byte_len (take 0 part.text) ≡ 0 = refl in
        (0, (let same : p ≡ part.start + byte_len (take 0 part.text) = omega (arith, before, cut, is.begin, behind, none) in same))

-- a slash or a place is where the rest begins, and neither is before that
or-either : (P : BytePos → Type 0) (slash : Option BytePos) (p : BytePos) → P p → ((q : BytePos) → slash ≡ Some q → P q) → P (or_slash slash p)
or-either P None p here there = here
or-either P (Some q) p here there = go (nat_lt q.0 p.0)
  where
    go : (b : Bool) → P (cond b q p)
    go true = there q refl
    go false = here

or-place : (slash : Option BytePos) (p : BytePos) → (or_slash slash p).0 ≤ p.0
or-place None p = omega arith
or-place (Some q) p = go (nat_lt q.0 p.0) refl
  where
    go : (b : Bool) → nat_lt q.0 p.0 ≡ b → (cond b q p).0 ≤ p.0
    go true e = omega (arith, ltb-true q.0 p.0 e)
    go false e = omega arith

or-there : (slash : Option BytePos) (p q : BytePos) → slash ≡ Some q → (or_slash slash p).0 ≤ q.0
or-there None p q e = cc
or-there (Some s) p q e = subst (λ r. (or_slash (Some s) p).0 ≤ r.0) (some-same e) (go (nat_lt s.0 p.0) refl)
  where
    some-same : Some s ≡ Some q → s ≡ q
    some-same e = cc

    go : (b : Bool) → nat_lt s.0 p.0 ≡ b → (cond b s p).0 ≤ s.0
    go true e = omega arith
    go false e = omega (arith, ltb-false s.0 p.0 e)

pub rests_are_there : RestsAreThere
rests_are_there c whole fits =
    let b = begin_of c in
    let inner = or_slash c.reread c.at in
    let has : HasPlace whole b.0 =
    or-either
    (λ p. HasPlace whole p.0)
    (last_slash c.state.seen)
    inner
    (or-either (λ p. HasPlace whole p.0) c.reread c.at fits.has_place (λ q e. (fits.slash_reread q e).has_place))
    (λ q e. (fits.slash_answered q e).has_place) in
    let part = rest_of c whole in
    let is : IsRestOf part whole =
    record {
      front = take (index_of whole b.0) whole.text;
      text = sym (take-append-drop (index_of whole b.0) whole.text);
      begin = sym (place-there whole b has);
    } in
    let outer : b.0 ≤ inner.0 = or-place (last_slash c.state.seen) inner in
    let at_least : b.0 ≤ c.at.0 = omega (arith, outer, or-place c.reread c.at) in
    record {
      is = is;
      fits = record {
        has_place = has-in-rest part whole c.at.0 is fits.has_place at_least;
        opened_before = fits.opened_before;
        slash_reread = λ q e. slash-in-rest part whole c.state.opened q is (fits.slash_reread q e) (omega (arith, outer, or-there c.reread c.at q e));
        slash_answered = λ q e. slash-in-rest part whole c.state.opened q is (fits.slash_answered q e) (or-there (last_slash c.state.seen) inner q e);
      };
    }
  where
    slash-in-rest : (part whole : Cursor) (opened q : BytePos) → IsRestOf part whole → StandsSlash whole opened q → part.start ≤ q.0 → StandsSlash part opened q
    slash-in-rest part whole opened q is stands behind =
        let has = has-in-rest part whole q.0 is stands.has_place behind in
        record {
          has_place = has;
          opens = ap opens_expression (alike-at part whole q is has).left ∙ stands.opens;
          opened_before = stands.opened_before;
        }
