-- What always holds of a lexer still does behind a read, and behind an answer that is taken in.
use Rattle.std.proofs.Common.{◌≡◌, ◌∙◌, ◌≤◌, Bool, true, false, cond, [], Option, Some, None, sym, subst, ap}
use Rattle.ecma_place.specs.Cursor.{Cursor, place}
use Rattle.ecma_place.specs.declared.place.BytePos.{BytePos}
use Rattle.ecma_token.specs.View.{SpannedView}
use Rattle.ecma_state.specs.Run.{reading_of}
use Rattle.ecma_state.specs.Session.{LexerValue, kept_in, lexer_state}
use Rattle.ecma_state.specs.Slashes.{IsAnswer, MayReread, OpensBehind}
use Rattle.ecma_state.specs.State.{StateValue, behind_answer, last_slash, opened_by, opens_template}
use Rattle.ecma_stream.specs.View.{IsLexer, lexer_view}
use Rattle.ecma_stream.specs.declared.lexer.Lexer.TheInside.{Inside}
use Rattle.ecma_state.specs.declared.kept.Kept.{Kept}
use Rattle.ecma_reads.proofs.SlashLemmas.{again-slash, answered-slash, is-answer, opened-before, reads-from, stands-moved}

pub still-lexer : (a : Inside) (l : LexerValue) (now : Cursor) → lexer_view a ≡ l → IsLexer a → now ≡ (reading_of (lexer_state l)).input → IsLexer (record a { input = now })
still-lexer a l now shows is moves =
    let moved : now ≡ (reading_of (lexer_state (lexer_view a))).input = moves ∙ ap (λ k. (reading_of (lexer_state k)).input) (sym shows) in
    let from = reads-from (lexer_state (lexer_view a)) in
    let start = ap (λ c. c.start) moved ∙ from.start in
    let text = ap (λ c. c.text) moved ∙ from.text in
    record {
      opened = opened-before (lexer_state (lexer_view a)) now is.opened is.reread moved;
      none_pending = is.none_pending;
      answered = λ p h. stands-moved a.input now a.state.opened p start text (is.answered p h);
      reread = λ p h. stands-moved a.input now a.state.opened p start text (is.reread p h);
    }

pub still-answers : (a : Inside) (l : LexerValue) (now : Cursor) (found : Option SpannedView) → lexer_view a ≡ l → IsLexer a → found ≡ (reading_of (lexer_state l)).found
    → now ≡ (reading_of (lexer_state l)).input → IsAnswer (record (lexer_view a) { input = now }) (kept_in found)
still-answers a l now found shows is finds moved =
    is-answer (lexer_view a) now found is.opened is.reread (finds ∙ ap (λ k. (reading_of (lexer_state k)).found) (sym shows)) (moved ∙ ap (λ k. (reading_of (lexer_state k)).input) (sym shows))

-- also where these fields stay, or what was answered is taken in

pub same-lexer : (a b : Inside) → IsLexer a → b.input ≡ a.input → b.state ≡ a.state → b.reread ≡ a.reread → b.comments.pending_leading ≡ [] → IsLexer b
same-lexer a b is input state reread pending = record {
  opened = rw (input, state) is.opened;
  none_pending = pending;
  answered = rw (input, state) is.answered;
  reread = rw (input, state, reread) is.reread;
}

-- the same where the lexer is seen with its state open
pub kept-lexer : (a x b : Inside) → x ≡ a → IsLexer a → b.input ≡ x.input → b.state.opened ≡ x.state.opened → b.state.seen ≡ x.state.seen → b.reread ≡ x.reread
    → b.comments.pending_leading ≡ [] → IsLexer b
kept-lexer a x b shows is input opened seen reread pending =
    let was = subst IsLexer (sym shows) is in
    record {
      opened = rw (input, opened) was.opened;
      none_pending = pending;
      answered = rw (input, opened, seen) was.answered;
      reread = rw (input, opened, reread) was.reread;
    }

taken-opened : (state : StateValue) (answer : Option Kept) (input : Cursor) → OpensBehind answer input → state.opened.0 ≤ place input → (opened_by state answer).0 ≤ place input
taken-opened state None input behind opened = opened
taken-opened state (Some t) input behind opened = go (opens_template state.contexts t.kind)
  where
    go : (b : Bool) → (cond b t.span.lo state.opened).0 ≤ place input
    go true = behind
    go false = opened

pub taken-lexer : (a b : Inside) (l : LexerValue) (answer : Option Kept) (flag : Bool) → lexer_view a ≡ l → IsAnswer l answer → IsLexer a → b.input ≡ a.input → b.reread ≡ a.reread
    → b.state ≡ behind_answer a.state flag answer → b.comments.pending_leading ≡ [] → IsLexer b
taken-lexer a b l answer flag shows answers is input reread state pending =
    let fits : IsAnswer (lexer_view a) answer = subst (λ k. IsAnswer k answer) (sym shows) answers in
    record {
      opened = rw (input, state) (taken-opened a.state answer a.input fits.opens_behind is.opened);
      none_pending = pending;
      answered = rw (input, state) (λ p h. answered-slash (lexer_view a) answer flag p fits h);
      reread = rw (input, state, reread) (λ p h. again-slash (lexer_view a) answer p fits h (is.reread p h));
    }

pub asked-lexer : (a b : Inside) (l : LexerValue) (start : Option BytePos) → lexer_view a ≡ l → MayReread start (lexer_state l) → IsLexer a → b.input ≡ a.input → b.reread ≡ start
    → b.state ≡ a.state → b.comments.pending_leading ≡ [] → IsLexer b
asked-lexer a b l start shows may is input reread state pending =
    record {
      opened = rw (input, state) is.opened;
      none_pending = pending;
      answered = rw (input, state) is.answered;
      reread = rw (input, state, reread) (λ p h. is.answered p (told a.refused p (subst (λ k. MayReread start (lexer_state k)) (sym shows) may p h)));
    }
  where
    told : (refused : Bool) (p : BytePos) → cond refused None (last_slash a.state.seen) ≡ Some p → last_slash a.state.seen ≡ Some p
    told true p e = cc
    told false p e = e
