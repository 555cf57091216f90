-- What a session over the rest of a text has in common with one over the whole text, and that each step keeps it.
use Rattle.std.proofs.Common.{◌≡◌, ◌∙◌, ℕ, ◌+◌, Bool, true, false, List, [], ◌∷◌, ◌++◌, Option, Some, None, length, take, drop, refl, sym, ap, subst}
use Rattle.std.specs.Prelude.{is_some}
use Rattle.std.specs.List.{list_all}
use Rattle.std.proofs.lemmas.Bool.{and_parts}
use Rattle.std.proofs.lemmas.List.{drop-drop}
use Rattle.std.proofs.lemmas.Option.{none-some}
use Rattle.ecma_place.specs.Cursor.{Cursor, HasPlace, index_of, passed, place, rest}
use Rattle.ecma_place.specs.Text.{byte_len, place_of}
use Rattle.ecma_place.specs.declared.comment.Comment.{Comment}
use Rattle.ecma_place.specs.declared.place.BytePos.{BytePos}
use Rattle.ecma_place.proofs.MoveLemmas.{place-passed}
use Rattle.ecma_token.specs.View.{SpannedView}
use Rattle.ecma_grammar.specs.Expressions.{regular_expression}
use Rattle.ecma_grammar.specs.Found.{Fault, found_at, token_behind}
use Rattle.ecma_grammar.specs.GapViews.{GapView}
use Rattle.ecma_comments.specs.declared.comments_buffer.BufferedComment.{BufferedComment}
use Rattle.ecma_contexts.specs.Contexts.{Contexts}
use Rattle.ecma_state.specs.Counting.{Counted, count_step}
use Rattle.ecma_state.specs.Disposition.{Errors, with_faults}
use Rattle.ecma_state.specs.Reading.{IsSameReading, Reading, reading_again, spanned, token_reading}
use Rattle.ecma_state.specs.Run.{act, act_all, act_on, acted_on, answer_behind, answer_in, answers_behind, at_place, comments_behind, given_in, given_of, mode_of, popped_from, reading_from, reading_of, reread_from}
use Rattle.ecma_state.specs.Session.{LexerState, Session, kept_in, kept_of, seen_of, state_of, state_value}
use Rattle.ecma_state.specs.State.{last_slash, slash_in}
use Rattle.ecma_state.specs.declared.step.Step.{Step}
use Rattle.ecma_state.specs.declared.step.Step.TheVariants.{Read, SetCtx, SetExprAllowed, SetContexts, PopContext, Reread, Withdraw, Save, Back, TakeErrors}
use Rattle.ecma_reads.proofs.SlashLemmas.{begins-reading, reads-from, slash-is}
use Rattle.ecma_laws.proofs.DeterminedLemmas.{reading_is_determined}
use Rattle.ecma_resuming.specs.Resuming.{IsRestOf, asks_no_errors}
use Rattle.ecma_resuming.proofs.RestLemmas.{Alike, alike-at}

-- Reads

alike-passed : (n : ℕ) (a b : Cursor) → Alike a b → Alike (passed n a) (passed n b)
alike-passed n a b h = record {
  left = sym (drop-drop n a.at a.text) ∙ ap (drop n) h.left ∙ drop-drop n b.at b.text;
  stands =
      place-passed a (passed n a) n refl
      ∙ ap (λ p. p + byte_len (take n (rest a))) h.stands
      ∙ ap (λ l. place b + byte_len (take n l)) h.left
      ∙ sym (place-passed b (passed n b) n refl);
}

again-is-determined : (flag : Bool) (a b : Cursor) → Alike a b → IsSameReading (reading_again flag a) (reading_again flag b)
again-is-determined flag a b h =
    let gap : GapView = record { line_break = flag; faults = []; comments = [] } in
    let s = regular_expression (rest a) in
    let same : regular_expression (rest b) ≡ s = ap regular_expression (sym h.left) in
    let behind = alike-passed (length s.spelling) a b h in
    let there : IsSameReading (reading_again flag a) (token_reading gap (found_at token_behind (place b) s) [] (passed (length s.spelling) b)) =
    record {
      found = ap (λ p. Some (spanned flag (found_at token_behind p s))) h.stands;
      end_flag = refl;
      faults = ap (λ p. (found_at token_behind p s).faults) h.stands;
      comments = refl;
      left = behind.left;
      stands = behind.stands;
    } in
    subst (λ t. IsSameReading (reading_again flag a) (token_reading gap (found_at token_behind (place b) t) [] (passed (length t.spelling) b))) (sym same) there

-- where a token that was found begins is a place of the text
has-begin : (l : LexerState) (t : SpannedView) → (reading_of l).found ≡ Some t → HasPlace l.input t.span.lo.0
has-begin l t found = go l.reread found
  where
    some-same : {u : SpannedView} → Some u ≡ Some t → t ≡ u
    some-same e = cc

    go : (r : Option BytePos) → (reading_from r l).found ≡ Some t → HasPlace l.input t.span.lo.0
    go None found = (begins-reading (mode_of l) l.input t found).has_place
    go (Some p) found = (index_of l.input p.0, ap (λ u. u.span.lo.0) (some-same found))

-- Sessions

-- a session, with another start place, in another text, and with other errors and comments
abbrev pub moved : Session → BytePos → Cursor → Errors → List BufferedComment → Session
moved s start input errors comments = record s { start = start; input = input; errors = errors; comments = comments }

-- a session is over the rest of a cursor's text, before which the same stands, and slashes that are or may be read again are
-- in it
pub record Rests (s : Session) (whole : Cursor) : Type 0 where
  pub is : IsRestOf s.input whole
  pub alike : Alike s.input whole
  pub reread : (p : BytePos) → s.reread ≡ Some p → HasPlace s.input p.0
  pub answered : (p : BytePos) → last_slash (seen_of s.past) ≡ Some p → HasPlace s.input p.0

-- a session is over the rest of another's text, and has all in common with it but start place, text, errors and comments
pub record Over (part whole : Session) : Type 0 where
  pub same : moved part whole.start whole.input whole.errors whole.comments ≡ whole
  pub rests : Rests part whole.input

-- both read the same
pub same-reading : (s : Session) (start : BytePos) (input : Cursor) (errors : Errors) (comments : List BufferedComment) → Rests s input
    → IsSameReading (reading_of (state_of s)) (reading_of (state_of (moved s start input errors comments)))
same-reading s start input errors comments h = go s.reread refl
  where
    go : (r : Option BytePos) → s.reread ≡ r → IsSameReading (reading_from r (state_of s)) (reading_from r (state_of (moved s start input errors comments)))
    go None e = reading_is_determined (mode_of (state_of s)) s.input input h.alike.left h.alike.stands
    go (Some p) e = again-is-determined (seen_of s.past).flag (at_place p s.input) (at_place p input) (alike-at s.input input p h.is (h.reread p e))

-- and come to the same
acted-same : (s : Session) (start : BytePos) (input : Cursor) (errors : Errors) (comments : List BufferedComment) (r : Reading)
    (found : Option SpannedView) (end_flag : Bool) (faults : List Fault) (told : List (Comment × Bool)) (behind : Cursor)
    → r.found ≡ found → r.end_flag ≡ end_flag
    → let q : Reading = record { found = found; end_flag = end_flag; faults = faults; comments = told; input = behind } in
    let m : Session = moved s start input errors comments in
    moved (acted_on s r).after start behind (with_faults s.context errors faults) (comments_behind comments (state_value m) (kept_in found) told)
    ≡ (acted_on m q).after
acted-same s start input errors comments r None end_flag faults told behind one two = rw (one, two) refl
acted-same s start input errors comments r (Some t) end_flag faults told behind one two = rw one refl

-- what is given last is a slash only where it is a token of the text
given-slash : (s : Session) (again : Bool) (flag : Bool) (found : Option SpannedView) (r : Reading) (p : BytePos) → r.found ≡ found → (reading_of (state_of s)).found ≡ found
    → last_slash (seen_of (given_of again r ∷ s.past)) ≡ Some p → HasPlace s.input p.0
given-slash s again flag None r p one found e =
    let ended : last_slash (seen_of (given_in again r.end_flag None ∷ s.past)) ≡ Some p = subst (λ f. last_slash (seen_of (given_in again r.end_flag f ∷ s.past)) ≡ Some p) one e in
    cc
given-slash s again flag (Some t) r p one found e =
    let given : last_slash (seen_of (given_in again r.end_flag (Some t) ∷ s.past)) ≡ Some p = subst (λ f. last_slash (seen_of (given_in again r.end_flag f ∷ s.past)) ≡ Some p) one e in
    let lo = (slash-is t p (by again given)).1 in
    subst (λ q. HasPlace s.input q.0) lo (has-begin (state_of s) t found)
  where
    by : (again : Bool) → last_slash (seen_of (given_in again r.end_flag (Some t) ∷ s.past)) ≡ Some p → slash_in (Some (kept_of t)) ≡ Some p
    by true e = e
    by false e = e

-- the rest of a text is that whatever stands where in both
same-rest : (a b c d : Cursor) → IsRestOf a b → c.start ≡ a.start → c.text ≡ a.text → d.start ≡ b.start → d.text ≡ b.text → IsRestOf c d
same-rest a b c d is one two three four = record {
  front = is.front;
  text = four ∙ is.text ∙ ap (λ t. is.front ++ t) (sym two);
  begin = one ∙ is.begin ∙ ap (λ n. place_of n is.front) (sym three);
}

pub same-place : (a c : Cursor) (p : ℕ) → c.start ≡ a.start → c.text ≡ a.text → HasPlace a p → HasPlace c p
same-place a c p one two (n, e) = (n, e ∙ ap (λ s. place_of s (take n a.text)) (sym one) ∙ ap (λ t. place_of c.start (take n t)) (sym two))

over-read : (s : Session) (start : BytePos) (input : Cursor) (errors : Errors) (comments : List BufferedComment) → Rests s input
    → Over (act_on s Read) (act_on (moved s start input errors comments) Read)
over-read s start input errors comments h =
    let m = moved s start input errors comments in
    let r = reading_of (state_of s) in
    let q = reading_of (state_of m) in
    let both = same-reading s start input errors comments h in
    let from = reads-from (state_of s) in
    let into = reads-from (state_of m) in
    record {
      same = acted-same s start input errors comments r q.found q.end_flag q.faults q.comments q.input both.found both.end_flag;
      rests = record {
        is = same-rest s.input input r.input q.input h.is from.start from.text into.start into.text;
        alike = record { left = both.left; stands = both.stands };
        reread = λ p e. same-place s.input r.input p.0 from.start from.text (h.reread p e);
        answered = λ p e. same-place s.input r.input p.0 from.start from.text (given-slash s (is_some s.reread) r.end_flag r.found r p refl refl e);
      };
    }

-- Steps

over-popped : (s : Session) (start : BytePos) (input : Cursor) (errors : Errors) (comments : List BufferedComment) → Rests s input → (contexts : Contexts)
    → Over (popped_from s contexts).after (popped_from (moved s start input errors comments) contexts).after
over-popped s start input errors comments h [] = record { same = refl; rests = h }
over-popped s start input errors comments h (top ∷ below) =
    record { same = refl; rests = record { is = h.is; alike = h.alike; reread = h.reread; answered = h.answered } }

over-reread : (s : Session) (start : BytePos) (input : Cursor) (errors : Errors) (comments : List BufferedComment) → Rests s input → (slash : Option BytePos)
    → last_slash (seen_of s.past) ≡ slash → Over (reread_from s slash).after (reread_from (moved s start input errors comments) slash).after
over-reread s start input errors comments h None e = record { same = refl; rests = h }
over-reread s start input errors comments h (Some p) e =
    record { same = refl; rests = record { is = h.is; alike = h.alike; reread = λ q f. h.answered q (e ∙ f); answered = h.answered } }

over-moved : (s : Session) (start : BytePos) (input : Cursor) (errors : Errors) (comments : List BufferedComment) → Rests s input → (step : Step)
    → Over (act_on s step) (act_on (moved s start input errors comments) step)
over-moved s start input errors comments h Read = over-read s start input errors comments h
over-moved s start input errors comments h (SetCtx context) =
    record { same = refl; rests = record { is = h.is; alike = h.alike; reread = h.reread; answered = h.answered } }
over-moved s start input errors comments h (SetExprAllowed allowed) =
    record { same = refl; rests = record { is = h.is; alike = h.alike; reread = h.reread; answered = h.answered } }
over-moved s start input errors comments h (SetContexts contexts) =
    record { same = refl; rests = record { is = h.is; alike = h.alike; reread = h.reread; answered = h.answered } }
over-moved s start input errors comments h PopContext = over-popped s start input errors comments h s.contexts
over-moved s start input errors comments h Reread = over-reread s start input errors comments h (last_slash (seen_of s.past)) refl
over-moved s start input errors comments h Withdraw =
    record { same = refl; rests = record { is = h.is; alike = h.alike; reread = λ p e. absurd (none-some p e); answered = h.answered } }
over-moved s start input errors comments h TakeErrors =
    record { same = refl; rests = record { is = h.is; alike = h.alike; reread = h.reread; answered = h.answered } }
over-moved s start input errors comments h Save = record { same = refl; rests = h }
over-moved s start input errors comments h (Back n) = record { same = refl; rests = h }

pub over-step : (part whole : Session) (step : Step) → Over part whole → Over (act_on part step) (act_on whole step)
over-step part whole step over =
    subst (λ s. Over (act_on part step) (act_on s step)) over.same (over-moved part whole.start whole.input whole.errors whole.comments over.rests step)

pub over-steps : (part whole : Session) (steps : List Step) → Over part whole → Over (act_all part steps) (act_all whole steps)
over-steps part whole [] over = over
over-steps part whole (step ∷ steps) over = over-steps (act_on part step) (act_on whole step) steps (over-step part whole step over)

-- Answers

answer-moved : (s : Session) (start : BytePos) (input : Cursor) (errors : Errors) (comments : List BufferedComment) → Rests s input → (step : Step)
    → asks_no_errors step ≡ true → (act s step).answer ≡ (act (moved s start input errors comments) step).answer
answer-moved s start input errors comments h Read asks = ap answer_in (same-reading s start input errors comments h).found
answer-moved s start input errors comments h (SetCtx context) asks = refl
answer-moved s start input errors comments h (SetExprAllowed allowed) asks = refl
answer-moved s start input errors comments h (SetContexts contexts) asks = refl
answer-moved s start input errors comments h PopContext asks = go s.contexts
  where
    go : (contexts : Contexts) → (popped_from s contexts).answer ≡ (popped_from (moved s start input errors comments) contexts).answer
    go [] = refl
    go (top ∷ below) = refl
answer-moved s start input errors comments h Reread asks = go (last_slash (seen_of s.past))
  where
    go : (slash : Option BytePos) → (reread_from s slash).answer ≡ (reread_from (moved s start input errors comments) slash).answer
    go None = refl
    go (Some p) = refl
answer-moved s start input errors comments h Withdraw asks = refl
answer-moved s start input errors comments h TakeErrors asks = cc
answer-moved s start input errors comments h Save asks = refl
answer-moved s start input errors comments h (Back n) asks = refl

same-answer : (part whole : Session) (step : Step) → Over part whole → asks_no_errors step ≡ true → (act part step).answer ≡ (act whole step).answer
same-answer part whole step over asks =
    answer-moved part whole.start whole.input whole.errors whole.comments over.rests step asks ∙ ap (λ s. (act s step).answer) over.same

answer-behind : (part whole : Session) (c : Counted) (step : Step) → Over part whole → asks_no_errors step ≡ true → answer_behind part c step ≡ answer_behind whole c step
answer-behind part whole c Read over asks = same-answer (act_all part c.steps) (act_all whole c.steps) Read (over-steps part whole c.steps over) asks
answer-behind part whole c (SetCtx context) over asks = same-answer (act_all part c.steps) (act_all whole c.steps) (SetCtx context) (over-steps part whole c.steps over) asks
answer-behind part whole c (SetExprAllowed allowed) over asks = same-answer (act_all part c.steps) (act_all whole c.steps) (SetExprAllowed allowed) (over-steps part whole c.steps over) asks
answer-behind part whole c (SetContexts contexts) over asks = same-answer (act_all part c.steps) (act_all whole c.steps) (SetContexts contexts) (over-steps part whole c.steps over) asks
answer-behind part whole c PopContext over asks = same-answer (act_all part c.steps) (act_all whole c.steps) PopContext (over-steps part whole c.steps over) asks
answer-behind part whole c Reread over asks = same-answer (act_all part c.steps) (act_all whole c.steps) Reread (over-steps part whole c.steps over) asks
answer-behind part whole c Withdraw over asks = same-answer (act_all part c.steps) (act_all whole c.steps) Withdraw (over-steps part whole c.steps over) asks
answer-behind part whole c TakeErrors over asks = cc
answer-behind part whole c Save over asks = refl
answer-behind part whole c (Back n) over asks = refl

pub answers-same : (part whole : Session) (c : Counted) (steps : List Step) → Over part whole → list_all asks_no_errors steps ≡ true
    → answers_behind part c steps ≡ answers_behind whole c steps
answers-same part whole c [] over asks = refl
answers-same part whole c (step ∷ steps) over asks =
    let parts = and_parts (asks_no_errors step) (list_all asks_no_errors steps) asks in
    let one = answer-behind part whole c step over parts.0 in
    let more = answers-same part whole (count_step c step) steps over parts.1 in
    ap (λ a. a ∷ answers_behind part (count_step c step) steps) one ∙ ap (λ l. answer_behind whole c step ∷ l) more
