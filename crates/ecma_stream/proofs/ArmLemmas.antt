-- Reads that look at what stands behind white space: the cursor before it, and what an arm gives.
use Rattle.std.proofs.Common.{is_some, ◌≡◌, ◌∙◌, ℕ, ◌+◌, ◌-◌, ◌≤◌, Bool, true, false, ◌∷◌, Some, None, length, length-drop, drop, refl, slice_get, sym, subst, ap, arith}
use Rattle.std.proofs.lemmas.Option.{none-some}
use Rattle.ecma_place.specs.Cursor.{Cursor, HasPlace, passed, place, rest}
use Rattle.ecma_place.specs.declared.place.BytePos.{BytePos}
use Rattle.ecma_place.proofs.MoveLemmas.{place-passed-le}
use Rattle.ecma_place.proofs.RunLemmas.{first-cons}
use Rattle.ecma_syntax.specs.declared.word.WordKind.{WordKind}
use Rattle.ecma_token.specs.View.{SpannedView, spanned_view}
use Rattle.ecma_token.specs.declared.token.TokenAndSpan.{TokenAndSpan}
use Rattle.ecma_reads.specs.BlankGaps.{IsBlankGap}
use Rattle.ecma_reads.specs.declared.blank_gap.BlankGap.{BlankGap}
use Rattle.ecma_dispatch.specs.Besides.{bare, state_taking}
use Rattle.ecma_state.specs.Mode.{gap_mode, is_template}
use Rattle.ecma_state.specs.Reading.{Reading, reading}
use Rattle.ecma_state.specs.Run.{at_place, mode_of, reading_from, reading_of, state_behind}
use Rattle.ecma_state.specs.Session.{LexerValue, LexerState, kept_of, lexer_state}
use Rattle.ecma_plain.specs.Plain.{IsPlain, PassesWord, StandsPlain, begins_word, plain_reading}
use Rattle.ecma_stream.specs.Giving.{IsBehindGap, back_at}
use Rattle.ecma_state.specs.declared.mode.Mode.{Mode}
use Rattle.ecma_state.specs.Slashes.{IsAnswer}
use Rattle.ecma_stream.specs.View.{IsLexer, lexer_view}
use Rattle.ecma_stream.specs.declared.lexer.Lexer.TheInside.{Inside}
use Rattle.ecma_plain.proofs.PlainLemmas.{none-is, plain-read}
use Rattle.ecma_reads.proofs.SlashLemmas.{at-index, is-answer, place-there, stands-moved}

-- Places

-- the cursor that stood there, where something stands behind what was passed
pub at-back : (old now : Cursor) (p : BytePos) (n c : ℕ) → now ≡ passed n old → p.0 ≡ place old → slice_get (rest now) 0 ≡ Some c → at_place p now ≡ old
at-back old now p n c moved e first =
    ap (at_place p) moved ∙ ap (λ (i : ℕ). let at : Cursor = record { start = old.start; text = old.text; at = i } in at) (at-index old p old.at within e)
  where
    some : length (rest now) ≡ 1 + length (drop 1 (rest now))
    some = ap length (first-cons (rest now) c first) ∙ (let one : length (c ∷ drop 1 (rest now)) ≡ 1 + length (drop 1 (rest now)) = omega arith in one)

    within : old.at ≤ length old.text
    within =
        let there : length (rest (passed n old)) ≡ length old.text - (old.at + n) = length-drop (old.at + n) old.text in
        let same : length (rest now) ≡ length (rest (passed n old)) = ap (λ c. length (rest c)) moved in
        omega (arith, some, there, same)

-- the same where something stands at it
pub at-text : (old now : Cursor) (p : BytePos) (n c : ℕ) → now ≡ passed n old → p.0 ≡ place old → slice_get (rest old) 0 ≡ Some c → at_place p now ≡ old
at-text old now p n c moved e first =
    ap (at_place p) moved ∙ ap (λ (i : ℕ). let at : Cursor = record { start = old.start; text = old.text; at = i } in at) (at-index old p old.at within e)
  where
    some : length (rest old) ≡ 1 + length (drop 1 (rest old))
    some = ap length (first-cons (rest old) c first) ∙ (let one : length (c ∷ drop 1 (rest old)) ≡ 1 + length (drop 1 (rest old)) = omega arith in one)

    within : old.at ≤ length old.text
    within =
        let there : length (rest old) ≡ length old.text - old.at = length-drop old.at old.text in
        omega (arith, some, there)

-- it is the same from further on
pub at-moved : (here now : Cursor) (p : BytePos) (n : ℕ) → now ≡ passed n here → at_place p now ≡ at_place p here
at-moved here now p n moved = ap (at_place p) moved

pub has-moved : (here now : Cursor) (p n : ℕ) → now ≡ passed n here → HasPlace here p → HasPlace now p
has-moved here now p n moved has = subst (λ (c : Cursor). HasPlace c p) (sym moved) has

pub has-before : (old now : Cursor) (p n : ℕ) → now ≡ passed n old → p ≡ place old → HasPlace now p
has-before old now p n moved e = has-moved old now p n moved (old.at, e)

-- A lexer whose cursor moves

pub moved-lexer : (a : Inside) (now : Cursor) (n : ℕ) → IsLexer a → now ≡ passed n a.input → IsLexer (record a { input = now })
moved-lexer a now n is moved =
    let opened = is.opened in
    let further = place-passed-le a.input now n moved in
    record {
      opened = omega (arith, opened, further);
      none_pending = is.none_pending;
      answered = λ p h. stands-moved a.input now a.state.opened p (ap (λ c. c.start) moved) (ap (λ c. c.text) moved) (is.answered p h);
      reread = λ p h. stands-moved a.input now a.state.opened p (ap (λ c. c.start) moved) (ap (λ c. c.text) moved) (is.reread p h);
    }

pub back-lexer : (a : Inside) (now : Cursor) (p : BytePos) → IsLexer a → HasPlace a.input p.0 → a.state.opened.0 ≤ p.0 → now ≡ at_place p a.input → IsLexer (record a { input = now })
back-lexer a now p is has opened moved =
    let there : place now ≡ p.0 = ap place moved ∙ place-there a.input p has in
    record {
      opened = omega (arith, opened, there);
      none_pending = is.none_pending;
      answered = λ q h. stands-moved a.input now a.state.opened q (ap (λ c. c.start) moved) (ap (λ c. c.text) moved) (is.answered q h);
      reread = λ q h. stands-moved a.input now a.state.opened q (ap (λ c. c.start) moved) (ap (λ c. c.text) moved) (is.reread q h);
    }

-- the same where the lexer is seen from outside
pub shown-back : (a : Inside) (l : LexerValue) (now : Cursor) (p : BytePos) → lexer_view a ≡ l → IsLexer a → HasPlace l.input p.0 → l.state.opened.0 ≤ p.0 → now ≡ at_place p a.input
    → IsLexer (record a { input = now })
shown-back a l now p shows is has opened moved =
    back-lexer a now p is (subst (λ (k : LexerValue). HasPlace k.input p.0) (sym shows) has) (subst (λ (k : LexerValue). k.state.opened.0 ≤ p.0) (sym shows) opened) moved

-- What is found

-- a read from before the white space finds the token that stands behind it
pub behind-read : (before : BytePos) (l : LexerValue) (gap : BlankGap) (t : SpannedView) (now : Cursor) → IsBehindGap before l gap → t.had_line_break ≡ gap.line_break
    → IsPlain (mode_of (lexer_state l)) t l.input now → reading (mode_of (lexer_state l)) (at_place before l.input) ≡ plain_reading t now
behind-read before l gap t now behind flag is =
    let stands = behind.stands in
    plain-read (mode_of (lexer_state l)) (at_place before l.input) l.input now gap.next t stands.given stands.next
    (subst (λ (b : Bool). IsBlankGap (gap_mode (mode_of (lexer_state l))) (at_place before l.input) l.input b) (sym flag) stands.blank) is

from-plain : (before : BytePos) (l : LexerValue) (t : SpannedView) → l.reread ≡ None → reading (mode_of (lexer_state l)) (at_place before l.input) ≡ plain_reading t l.input
    → reading_of (lexer_state (back_at before l)) ≡ plain_reading t l.input
from-plain before l t none found = ap (λ o. reading_from o (lexer_state (back_at before l))) none ∙ found

-- it is an answer, whatever the flag of the gap is
pub answer-found : (before : BytePos) (l : LexerValue) (t : SpannedView) (r : Reading) → r.found ≡ Some t → r.input ≡ l.input → l.reread ≡ None → HasPlace l.input before.0
    → l.state.opened.0 ≤ before.0 → reading (mode_of (lexer_state l)) (at_place before l.input) ≡ r → IsAnswer l (Some (kept_of t))
answer-found before l t r is at none has opened found =
    let reads : reading_of (lexer_state (back_at before l)) ≡ r = ap (λ o. reading_from o (lexer_state (back_at before l))) none ∙ found in
    let there = place-there l.input before has in
    is-answer (back_at before l) l.input (Some t) (omega (arith, there, opened)) (λ p e. absurd (none-some p (sym none ∙ e))) (sym is ∙ ap (λ r. r.found) (sym reads)) (sym at ∙ ap (λ r. r.input) (sym reads))

pub given-answer : (before : BytePos) (l : LexerValue) (t : SpannedView) → l.reread ≡ None → HasPlace l.input before.0 → l.state.opened.0 ≤ before.0
    → reading (mode_of (lexer_state l)) (at_place before l.input) ≡ plain_reading t l.input → IsAnswer l (Some (kept_of t))
given-answer before l t none has opened found = answer-found before l t (plain_reading t l.input) refl refl none has opened found

-- what was given is what that read finds
pub given-found : (before : BytePos) (l : LexerValue) (t : SpannedView) → l.reread ≡ None → reading (mode_of (lexer_state l)) (at_place before l.input) ≡ plain_reading t l.input
    → Some t ≡ (reading_of (lexer_state (back_at before l))).found
given-found before l t none found = ap (λ r. r.found) (sym (from-plain before l t none found))

pub given-state : (before : BytePos) (l : LexerValue) (t : SpannedView) (now : LexerState) → l.reread ≡ None
    → reading (mode_of (lexer_state l)) (at_place before l.input) ≡ plain_reading t l.input → now ≡ state_taking (lexer_state l) (Some (kept_of t)) (bare t.had_line_break)
    → now ≡ state_behind (lexer_state (back_at before l)) (reading_of (lexer_state (back_at before l)))
given-state before l t now none found taken =
    taken ∙ ap (state_behind (lexer_state (back_at before l))) (sym (from-plain before l t none found))

-- where no slash is read again, that is what the lexer reads
pub reads-plain : (a : Inside) (l : LexerValue) (mode : Mode) (input : Cursor) (r : Reading) → lexer_view a ≡ l → is_some a.reread ≡ false
    → mode ≡ mode_of (lexer_state l) → input ≡ a.input → reading mode input ≡ r → reading_of (lexer_state l) ≡ r
reads-plain a l mode input r shows none is at reads =
    ap (λ o. reading_from o (lexer_state l)) (sym (ap (λ k. k.reread) shows) ∙ none-is a.reread none)
    ∙ ap (λ m. reading m l.input) (sym is)
    ∙ ap (reading mode) (sym (ap (λ k. k.input) shows) ∙ sym at)
    ∙ reads

-- An arm, by what the lexer holds

pub arm-code : (before : BytePos) (a : Inside) (l : LexerValue) (gap : BlankGap) → lexer_view a ≡ l → IsBehindGap before l gap → is_template (mode_of (lexer_state (lexer_view a))).top ≡ false
arm-code before a l gap shows behind = ap (λ k. is_template (mode_of (lexer_state k)).top) shows ∙ behind.stands.in_code

pub arm-read : (before : BytePos) (a : Inside) (l : LexerValue) (gap : BlankGap) (t : SpannedView) (now : Cursor) (n : ℕ) → lexer_view a ≡ l → IsBehindGap before l gap
    → t.had_line_break ≡ gap.line_break → IsPlain (mode_of (lexer_state (lexer_view a))) t a.input now → now ≡ passed n a.input
    → reading (mode_of (lexer_state (lexer_view a))) (at_place before now) ≡ plain_reading t now
arm-read before a l gap t now n shows behind flag is moved =
    ap (reading (mode_of (lexer_state (lexer_view a)))) (at-moved a.input now before n moved)
    ∙ behind-read before (lexer_view a) gap t now (subst (λ (k : LexerValue). IsBehindGap before k gap) (sym shows) behind) flag is

-- the arm of words

pub word-read : (before : BytePos) (a : Inside) (l : LexerValue) (gap : BlankGap) (token : TokenAndSpan) (start : BytePos) (kind : WordKind) (now : Cursor) → lexer_view a ≡ l
    → IsBehindGap before l gap → begins_word gap.next ≡ true → start.0 ≡ place a.input → PassesWord a.input now kind
    → ((mode : Mode) (old : Cursor) → is_template mode.top ≡ false → start.0 ≡ place old → slice_get (rest old) 0 ≡ Some gap.next → begins_word gap.next ≡ true → PassesWord old now kind
    → IsPlain mode (spanned_view token) old now)
    → token.had_line_break ≡ gap.line_break → reading (mode_of (lexer_state (lexer_view a))) (at_place before now) ≡ plain_reading (spanned_view token) now
word-read before a l gap token start kind now shows behind begins there passes told flag =
    let code = arm-code before a l gap shows behind in
    let first : slice_get (rest a.input) 0 ≡ Some gap.next = ap (λ k. slice_get (rest k.input) 0) shows ∙ behind.stands.next in
    arm-read before a l gap (spanned_view token) now _ shows behind flag (told (mode_of (lexer_state (lexer_view a))) a.input code there first begins passes) passes.moved

-- behind the white space

pub arm-back : (a : Inside) (l : LexerValue) (before : BytePos) (now : Cursor) (n c : ℕ) → lexer_view a ≡ l → before.0 ≡ place a.input → now ≡ passed n a.input → slice_get (rest now) 0 ≡ Some c
    → back_at before (lexer_view (record a { input = now })) ≡ l
arm-back a l before now n c shows e moved first =
    ap (λ (i : Cursor). let k : LexerValue = record (lexer_view a) { input = i } in k) (at-back a.input now before n c moved e first) ∙ shows

pub here-inside : (a : Inside) (l : LexerValue) (p : BytePos) → lexer_view a ≡ l → p.0 ≡ place l.input → p.0 ≡ place a.input
here-inside a l p shows here = here ∙ ap (λ k. place k.input) (sym shows)

pub arm-behind : (a : Inside) (l : LexerValue) (mode : Mode) (before : BytePos) (now : Cursor) (gap : BlankGap) → lexer_view a ≡ l → IsLexer a → l.reread ≡ None
    → mode ≡ mode_of (lexer_state l) → before.0 ≡ place a.input → StandsPlain mode a.input now gap → IsBehindGap before (lexer_view (record a { input = now })) gap
arm-behind a l mode before now gap shows is none by e stands =
    let moved = stands.blank.moved in
    let own : mode ≡ mode_of (lexer_state (lexer_view a)) = by ∙ ap (λ k. mode_of (lexer_state k)) (sym shows) in
    let back = at-back a.input now before _ gap.next moved e stands.next in
    let opened = is.opened in
    record {
      none = ap (λ k. k.reread) shows ∙ none;
      has_place = has-before a.input now before.0 _ moved e;
      opened = omega (arith, opened, e);
      stands =
          subst (λ (i : Cursor). StandsPlain (mode_of (lexer_state (lexer_view a))) i now gap) (sym back)
          (subst (λ (m : Mode). StandsPlain m a.input now gap) own stands);
    }

-- in a template, where something stands at the cursor

pub text-back : (a : Inside) (l : LexerValue) (before : BytePos) (now : Cursor) (n c : ℕ) → lexer_view a ≡ l → before.0 ≡ place a.input → now ≡ passed n a.input → slice_get (rest a.input) 0 ≡ Some c
    → back_at before (lexer_view (record a { input = now })) ≡ l
text-back a l before now n c shows e moved first =
    ap (λ (i : Cursor). let k : LexerValue = record (lexer_view a) { input = i } in k) (at-text a.input now before n c moved e first) ∙ shows

-- what stands first for a lexer that is seen from outside does so for what it holds
pub first-at : (a : Inside) (l : LexerValue) {c : ℕ} → lexer_view a ≡ l → slice_get (rest l.input) 0 ≡ Some c → slice_get (rest a.input) 0 ≡ Some c
first-at a l shows first = ap (λ k. slice_get (rest k.input) 0) shows ∙ first

-- a lexer whose cursor stays
pub same-back : (a : Inside) (l : LexerValue) (now : Cursor) → lexer_view a ≡ l → now ≡ a.input → lexer_view (record a { input = now }) ≡ l
same-back a l now shows same = ap (λ (i : Cursor). let k : LexerValue = record (lexer_view a) { input = i } in k) same ∙ shows
