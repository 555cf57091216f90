-- A run keeps at most two tokens for each byte of its text.
use Rattle.std.proofs.Common.{◌≡◌, ◌∙◌, ℕ, suc, ◌+◌, ◌*◌, ◌<◌, ◌≤◌, ◌==◌, Bool, true, false, cond, ◌&&◌, List, [], ◌∷◌, drop, take, take-append-drop, length, Option, Some, None, eqb-true, refl, sym, subst, ap, arith}
use Rattle.std.specs.Prelude.{is_some}
use Rattle.std.proofs.lemmas.Bool.{eqb-false}
use Rattle.std.proofs.lemmas.Option.{none-some}
use Rattle.ecma_place.specs.Text.{Text, byte_len}
use Rattle.ecma_place.specs.Cursor.{Cursor, place, rest}
use Rattle.ecma_place.specs.declared.place.BytePos.{BytePos}
use Rattle.ecma_place.proofs.MoveLemmas.{byte_len-append}
use Rattle.ecma_token.specs.View.{SpannedView}
use Rattle.ecma_scan.specs.GapViews.{GapView}
use Rattle.ecma_state.specs.Counting.{counting}
use Rattle.ecma_laws.specs.EmptyTokens.{NeverTwoEmpty, is_empty_token}
use Rattle.ecma_laws.specs.FewTokens.{TokensAreFew}
use Rattle.ecma_laws.specs.Order.{InOrder}
use Rattle.ecma_state.specs.Reading.{Reading, behind_gap, gap_in, reading, reading_again, reading_behind, reading_code, reading_if, stands_shebang}
use Rattle.ecma_state.specs.Run.{act_on, acted_on, at_place, given_in, mode_of, reading_from, session, start_of}
use Rattle.ecma_state.specs.Session.{Past, Session, kept_back, last_flag, state_of}
use Rattle.ecma_state.specs.declared.mode.Mode.{Mode}
use Rattle.ecma_state.specs.declared.step.Step.TheVariants.{Read}
use Rattle.ecma_laws.proofs.EmptyLemmas.{again-holds, bytes-some, empty_tokens_stand_alone}
use Rattle.ecma_reads.proofs.EndLemmas.{ReadsOn, opens-some, reading-on, stands-opens, token-extent}
use Rattle.ecma_laws.proofs.StepLemmas.{fold-holds}
use Rattle.ecma_laws.proofs.TilingLemmas.{session_standing}

-- A token begins before the end of the text

abbrev end_place : Cursor → ℕ
end_place c = c.start + byte_len c.text

-- what is left reaches to the end
to-end : (c : Cursor) → place c + byte_len (rest c) ≡ end_place c
to-end c =
    let whole = sym (byte_len-append (take c.at c.text) (drop c.at c.text)) ∙ ap byte_len (take-append-drop c.at c.text) in
    omega (arith, whole)

before-end : (c : Cursor) → 0 < length (rest c) → place c < end_place c
before-end c some = omega (arith, to-end c, bytes-some (rest c) some)

abbrev begin_in : Option SpannedView → ℕ
begin_in None = 0
begin_in (Some t) = t.span.lo.0

behind-begins : (mode : Mode) (before : GapView) (here : Cursor) (text : Text) (t : SpannedView) → rest here ≡ text → (reading_behind mode before here text).found ≡ Some t → t.span.lo.0 < end_place here
behind-begins mode before here [] t left found = absurd (none-some t found)
behind-begins mode before here (c ∷ cs) t left found =
    let extent = token-extent mode before.line_break (place here) (c ∷ cs) in
    let lo : place here ≡ t.span.lo.0 = ap (λ e. e.lo.0) (sym extent) ∙ ap begin_in found in
    let some : 0 < length (rest here) = rw left (omega arith) in
    omega (arith, lo, before-end here some)

code-begins : (mode : Mode) (input : Cursor) (t : SpannedView) → (reading_code mode input).found ≡ Some t → t.span.lo.0 < end_place input
unfolding reading_code
code-begins mode input t found =
    behind-begins mode (gap_in mode (place input) (rest input)) (behind_gap mode input) (rest (behind_gap mode input)) t refl found

reading-begins : (mode : Mode) (input : Cursor) (t : SpannedView) → (reading mode input).found ≡ Some t → t.span.lo.0 < end_place input
reading-begins mode input t found = go (stands_shebang mode (rest input)) refl found
  where
    go : (b : Bool) → stands_shebang mode (rest input) ≡ b → (reading_if b mode input).found ≡ Some t → t.span.lo.0 < end_place input
    go true e found =
        let lo : place input ≡ t.span.lo.0 = ap begin_in found in
        omega (arith, lo, before-end input (opens-some (rest input) (stands-opens mode.shebang_allowed (rest input) e)))
    go false e found = code-begins mode input t found

-- where the last token that is kept holds no characters, something is left of the text behind it
abbrev NewestBegins : Cursor → Past → Type 0
NewestBegins input past =
    (t : SpannedView) (ts : List SpannedView) → kept_back past ≡ t ∷ ts → is_empty_token t ≡ true → t.span.lo.0 < end_place input

head-same : {t u : SpannedView} {ts us : List SpannedView} → t ∷ ts ≡ u ∷ us → t ≡ u
head-same same = cc

plain-begins : (s : Session) (again : Bool) → again ≡ false → NewestBegins s.input s.past
    → NewestBegins (reading (mode_of (state_of s)) s.input).input (given_in again (reading (mode_of (state_of s)) s.input).end_flag (reading (mode_of (state_of s)) s.input).found ∷ s.past)
plain-begins s again plain before = go r.found refl again plain
  where
    r : Reading
    r = reading (mode_of (state_of s)) s.input

    on : ReadsOn s.input r
    on = reading-on (mode_of (state_of s)) s.input

    same : end_place s.input ≡ end_place r.input
    same = sym (ap (λ n. n + byte_len r.input.text) on.start ∙ ap (λ text. s.input.start + byte_len text) on.text)

    go : (found : Option SpannedView) → r.found ≡ found → (again : Bool) → again ≡ false → NewestBegins r.input (given_in again r.end_flag found ∷ s.past)
    go None e again plain = λ u us kept empty. omega (arith, same, before u us kept empty)
    go (Some t) e false plain = λ u us kept empty.
        let lo : t.span.lo.0 ≡ u.span.lo.0 = ap (λ v. v.span.lo.0) (head-same kept) in
        omega (arith, same, lo, reading-begins (mode_of (state_of s)) s.input t e)
    go (Some t) e true plain = cc

read-begins : (s : Session) → NewestBegins s.input s.past → NewestBegins (act_on s Read).input (act_on s Read).past
read-begins s before = go s.reread refl
  where
    go : (r : Option BytePos) → s.reread ≡ r → NewestBegins (acted_on s (reading_from r (state_of s))).after.input (acted_on s (reading_from r (state_of s))).after.past
    go None e = plain-begins s (is_some s.reread) (ap is_some e) before
    go (Some p) e = read_again (is_some s.reread) (ap is_some e)
      where
        r : Reading
        r = reading_again (last_flag s.past) (at_place p s.input)

        read_again : (again : Bool) → again ≡ true → NewestBegins r.input (given_in again r.end_flag r.found ∷ s.past)
        read_again true same = λ u us kept empty.
            let holds = again-holds (last_flag s.past) (at_place p s.input) _ refl in
            let never : false ≡ true = sym holds ∙ ap is_empty_token (head-same kept) ∙ empty in cc
        read_again false same = cc

-- Counting

abbrev room_if : Bool → ℕ
room_if empty = cond empty 1 0

-- the room that the newest token takes besides its characters
abbrev newest_room : List SpannedView → ℕ
newest_room [] = 0
newest_room (t ∷ ts) = room_if (is_empty_token t)

room-le : (ts : List SpannedView) → newest_room ts ≤ 1
room-le [] = omega arith
room-le (t ∷ ts) = go (is_empty_token t)
  where
    go : (b : Bool) → room_if b ≤ 1
    go true = omega arith
    go false = omega arith

tail-alone : (t : SpannedView) (ts : List SpannedView) → NeverTwoEmpty (t ∷ ts) → NeverTwoEmpty ts
tail-alone t [] alone = tt
tail-alone t (u ∷ us) alone = alone.1

none-below : (t : SpannedView) (ts : List SpannedView) → NeverTwoEmpty (t ∷ ts) → is_empty_token t ≡ true → newest_room ts ≡ 0
none-below t [] alone empty = refl
none-below t (u ∷ us) alone empty = go (is_empty_token t) (is_empty_token u) empty alone.0
  where
    go : (a b : Bool) → a ≡ true → (a && b) ≡ false → room_if b ≡ 0
    go true true e h = cc
    go true false e h = refl
    go false b e h = cc

-- one more token behind those below it
one-more : (begin end n below : ℕ) (t : SpannedView) → t.span.lo.0 ≤ t.span.hi.0 → t.span.hi.0 ≤ end → n + 2 * begin ≤ 2 * t.span.lo.0 + below → below ≤ 1
    → (is_empty_token t ≡ true → below ≡ 0) → suc n + 2 * begin ≤ 2 * end + room_if (is_empty_token t)
one-more begin end n below t own within few room none = go (is_empty_token t) refl
  where
    apart : (lo hi : ℕ) → lo ≤ hi → (lo == hi) ≡ false → lo < hi
    apart lo hi own holds = let differ = eqb-false lo hi holds in omega (arith, own, differ)

    go : (b : Bool) → is_empty_token t ≡ b → suc n + 2 * begin ≤ 2 * end + room_if b
    go true empty = omega (arith, few, own, within, none empty)
    go false holds = omega (arith, few, within, room, apart t.span.lo.0 t.span.hi.0 own holds)

-- tokens in order: two for each byte between two places, and one more where the last holds no characters
few-in-order : (begin end : ℕ) (ts : List SpannedView) → InOrder begin ts end → NeverTwoEmpty ts → length ts + 2 * begin ≤ 2 * end + newest_room ts
few-in-order begin end [] order alone = omega (arith, order)
few-in-order begin end (t ∷ ts) order alone =
    let below = few-in-order begin t.span.lo.0 ts order.2 (tail-alone t ts alone) in
    one-more begin end (length ts) (newest_room ts) t order.0 order.1 below (room-le ts) (none-below t ts alone)

pub tokens_are_few : TokensAreFew
tokens_are_few settings input steps = go (kept_back s.past) refl
  where
    s : Session
    s = session settings input steps

    newest : NewestBegins s.input s.past
    newest = fold-holds NewestBegins read-begins (start_of settings input) (counting steps) (λ t ts kept empty. cc)

    -- where the run stands, the text ends where it ended at the start
    ends : end_place s.input ≡ place input + byte_len (rest input)
    ends =
        let k = session_standing settings input steps in
        ap (λ n. n + byte_len s.input.text) k.start ∙ ap (λ text. input.start + byte_len text) k.text ∙ sym (to-end input)

    go : (ts : List SpannedView) → kept_back s.past ≡ ts → length ts ≤ 2 * byte_len (rest input)
    go [] kept = omega arith
    go (t ∷ ts) kept = bound (is_empty_token t) refl
      where
        order : InOrder (place input) (t ∷ ts) (place s.input)
        order = subst (λ us. InOrder (place input) us (place s.input)) kept (session_standing settings input steps).order

        alone : NeverTwoEmpty (t ∷ ts)
        alone = subst NeverTwoEmpty kept (empty_tokens_stand_alone settings input steps)

        few : length (t ∷ ts) + 2 * place input ≤ 2 * t.span.hi.0 + newest_room (t ∷ ts)
        few = few-in-order (place input) t.span.hi.0 (t ∷ ts) (order.0, omega arith, order.2) alone

        bound : (b : Bool) → is_empty_token t ≡ b → length (t ∷ ts) ≤ 2 * byte_len (rest input)
        bound true empty =
            let room : newest_room (t ∷ ts) ≡ 1 = ap room_if empty in
            let here : t.span.lo.0 ≡ t.span.hi.0 = eqb-true t.span.lo.0 t.span.hi.0 empty in
            omega (arith, few, room, here, newest t ts kept empty, ends)
        bound false holds =
            let room : newest_room (t ∷ ts) ≡ 0 = ap room_if holds in
            let within = order.1 in
            omega (arith, few, room, within, to-end s.input, ends)
