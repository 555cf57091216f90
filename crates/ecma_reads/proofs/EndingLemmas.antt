-- A text is read to its end by enough reads.
use Rattle.std.proofs.Common.{◌≡◌, ◌∙◌, ℕ, zero, suc, ◌+◌, ◌-◌, ◌<◌, ◌≤◌, Bool, true, false, List, [], ◌∷◌, ◌++◌, append-nil, Option, Some, None, length, refl, sym, ap, arith, reverse}
use Rattle.std.specs.Prelude.{fold, is_some, option_map, Result, Ok, Err, IfOk, OnOk}
use Rattle.std.proofs.lemmas.Grind.{reverse_onto}
use Rattle.ecma_place.specs.Text.{byte_len}
use Rattle.ecma_place.specs.Cursor.{Cursor, place, rest}
use Rattle.std.proofs.lemmas.Str.{length-le-encodes}
use Rattle.ecma_token.specs.Kinds.{kind_of}
use Rattle.ecma_token.specs.View.{SpannedView}
use Rattle.ecma_scan.specs.Gaps.{has_line_break}
use Rattle.ecma_state.specs.declared.mode.Mode.{Mode}
use Rattle.ecma_state.specs.declared.step.Step.TheVariants.{Read}
use Rattle.ecma_state.specs.Reading.{reading}
use Rattle.ecma_state.specs.Mode.{gap_mode}
use Rattle.ecma_state.specs.Session.{AtEnd, LexerState, Past, Session, has_ended, kept_back, kept_in, seen_of, state_of}
use Rattle.ecma_state.specs.State.{previous, seen_behind}
use Rattle.ecma_state.specs.Run.{act_on, acted_on, given_in, is_free_from, is_free_read, mode_of, reading_from, reading_of, state_behind}
use Rattle.ecma_state.specs.Ending.{ReadsOut, TokensRunOut, behind_reads, comments_of, enough, errors_of, most_tokens, reads, tokens_of}
use Rattle.ecma_reads.proofs.EndLemmas.{end-free, reading-end, reading-less, reading-on, room-le}

-- At the end

-- a session where nothing is left, and what a read makes of it
abbrev end_flag : Session → Bool
end_flag s = has_line_break (gap_mode (mode_of (state_of s))) (rest s.input)

-- what is read where nothing is read again
pub plain-reading : (l : LexerState) → l.reread ≡ None → reading_of l ≡ reading (mode_of l) l.input
plain-reading l plain = ap (λ r. reading_from r l) plain

act-end : (s : Session) → s.reread ≡ None → rest s.input ≡ [] → act_on s Read ≡ record s { past = AtEnd (end_flag s) ∷ s.past }
act-end s plain e =
    ap (λ r. (acted_on s r).after) (plain-reading (state_of s) plain ∙ reading-end (mode_of (state_of s)) s.input e)
    ∙ ap (λ comments. record s { comments = comments; past = AtEnd (end_flag s) ∷ s.past }) (append-nil s.comments)

-- a read where nothing is left finds nothing, and does not allocate

pub end_found : (l : LexerState) → l.reread ≡ None → rest l.input ≡ [] → (reading_of l).found ≡ None
end_found l plain e = ap (λ r. r.found) (plain-reading l plain ∙ reading-end (mode_of l) l.input e)

pub end_faults : (l : LexerState) → l.reread ≡ None → rest l.input ≡ [] → (reading_of l).faults ≡ []
end_faults l plain e = ap (λ r. r.faults) (plain-reading l plain ∙ reading-end (mode_of l) l.input e)

pub end_comments : (l : LexerState) → l.reread ≡ None → rest l.input ≡ [] → (reading_of l).comments ≡ []
end_comments l plain e = ap (λ r. r.comments) (plain-reading l plain ∙ reading-end (mode_of l) l.input e)

pub end_free : (l : LexerState) → l.reread ≡ None → rest l.input ≡ [] → is_free_read l ≡ true
end_free l plain e = ap (λ r. is_free_from r l) plain ∙ end-free (mode_of l) l.input e

pub ruleset at_the_end = (end_found, end_faults, end_comments, end_free)

-- nothing is kept of reads there, and the end is answered
pub record Stays (s t : Session) : Type 0 where
  pub input : t.input ≡ s.input
  pub kept : kept_back t.past ≡ kept_back s.past
  pub ended : has_ended s.past ≡ true → has_ended t.past ≡ true
  pub errors : t.errors ≡ s.errors
  pub comments : t.comments ≡ s.comments

stays-read : (s : Session) → s.reread ≡ None → rest s.input ≡ [] → Stays s (act_on s Read)
stays-read s plain e = rw (act-end s plain e) record { input = refl; kept = refl; ended = λ _. refl; errors = refl; comments = refl }

pub stays : (n : ℕ) (s : Session) → s.reread ≡ None → rest s.input ≡ [] → Stays s (fold act_on s (reads n))
stays zero s plain e = record { input = refl; kept = refl; ended = λ h. h; errors = refl; comments = refl }
stays (suc n) s plain e =
    let one = stays-read s plain e in
    let there : rest (act_on s Read).input ≡ [] = ap rest one.input ∙ e in
    let more = stays n (act_on s Read) plain there in
    record {
      input = more.input ∙ one.input;
      kept = more.kept ∙ one.kept;
      ended = λ h. more.ended (one.ended h);
      errors = more.errors ∙ one.errors;
      comments = more.comments ∙ one.comments;
    }

-- Before the end

-- a read that answers the end leaves nothing
nothing-left : (l : LexerState) → l.reread ≡ None → (reading_of l).found ≡ None → rest (reading_of l).input ≡ []
nothing-left l plain none =
    let same = plain-reading l plain in
    ap (λ r. rest r.input) same ∙ (reading-on (mode_of l) l.input).ending (ap (λ r. r.found) (sym same) ∙ none)

-- such a read, and those behind it
ends-now : (n : ℕ) (s : Session) → s.reread ≡ None → (reading_of (state_of s)).found ≡ None
    → (has_ended (fold act_on (act_on s Read) (reads n)).past ≡ true) × (rest (fold act_on (act_on s Read) (reads n)).input ≡ [])
ends-now n s plain none =
    let there : rest (act_on s Read).input ≡ [] = nothing-left (state_of s) plain none in
    let ended : has_ended (act_on s Read).past ≡ true = ap (λ found. has_ended (given_in (is_some s.reread) (reading_of (state_of s)).end_flag found ∷ s.past)) none in
    let more = stays n (act_on s Read) plain there in
    (more.ended ended, ap rest more.input ∙ there)

-- a token leaves fewer that may come

pub tokens_run_out : TokensRunOut
tokens_run_out l t plain found =
    let same = plain-reading l plain in
    let kind : previous (state_behind l (reading_of l)).state.seen ≡ Some (kind_of t.token) = ap (λ o. previous (seen_behind l.state.seen (reading_of l).end_flag (kept_in o))) found in
    let less = reading-less (mode_of l) l.input t (ap (λ r. r.found) (sym same) ∙ found) in
    let input : (state_behind l (reading_of l)).input ≡ (reading (mode_of l) l.input).input = ap (λ r. r.input) same in
    rw (kind, input) less

-- a lexer that has come to a session, behind one more read

seen-behind : (past : Past) (again flag : Bool) (found : Option SpannedView) → seen_of (given_in again flag found ∷ past) ≡ seen_behind (seen_of past) flag (kept_in found)
seen-behind past again flag None = refl
seen-behind past true flag (Some t) = refl
seen-behind past false flag (Some t) = refl

pub state-behind : (s : Session) → state_of (act_on s Read) ≡ state_behind (state_of s) (reading_of (state_of s))
state-behind s =
    let now = state_of (act_on s Read) in
    let r = reading_of (state_of s) in
    ap (λ seen. record now { state = record now.state { seen = seen } }) (seen-behind s.past (is_some s.reread) r.end_flag r.found)

ends : (n : ℕ) (s : Session) → s.reread ≡ None → most_tokens (state_of s) < n → (has_ended (fold act_on s (reads n)).past ≡ true) × (rest (fold act_on s (reads n)).input ≡ [])
ends zero s plain h = absurd (omega (arith, h))
ends (suc n) s plain h = go (reading_of (state_of s)).found refl (ends n (act_on s Read) plain)
  where
    go : (found : Option SpannedView) → (reading_of (state_of s)).found ≡ found
        → (most_tokens (state_of (act_on s Read)) < n → (has_ended (fold act_on (act_on s Read) (reads n)).past ≡ true) × (rest (fold act_on (act_on s Read) (reads n)).input ≡ []))
        → (has_ended (fold act_on (act_on s Read) (reads n)).past ≡ true) × (rest (fold act_on (act_on s Read) (reads n)).input ≡ [])
    go None e more = ends-now n s plain e
    go (Some t) e more =
        let less = tokens_run_out (state_of s) t plain e in
        let same = ap most_tokens (state-behind s) in
        more (omega (arith, h, less, same))

-- Counting

fold-reads : (m n : ℕ) (s : Session) → fold act_on s (reads (m + n)) ≡ fold act_on (fold act_on s (reads m)) (reads n)
fold-reads zero n s = ap (λ k. fold act_on s (reads k)) (let same : 0 + n ≡ n = omega arith in same)
fold-reads (suc m) n s =
    ap (λ k. fold act_on s (reads k)) (let same : suc m + n ≡ suc (m + n) = omega arith in same) ∙ fold-reads m n (act_on s Read)

-- reads change nothing about what is read again
reads-plain : (n : ℕ) (s : Session) → s.reread ≡ None → (fold act_on s (reads n)).reread ≡ None
reads-plain zero s plain = plain
reads-plain (suc n) s plain = reads-plain n (act_on s Read) plain

-- enough reads are more than all tokens
most-enough : (s : Session) → most_tokens (state_of s) < enough s.input
most-enough s =
    let bound : length (rest s.input) ≤ byte_len (rest s.input) = length-le-encodes (rest s.input) in
    omega (arith, bound, room-le (previous (seen_of s.past)))

-- more reads than enough keep what enough keep
pub reads_out : ReadsOut
reads_out s n plain h =
    let k : ℕ = enough s.input in
    let first = ends k s plain (most-enough s) in
    let count : k + (n - k) ≡ n = omega arith in
    let split : behind_reads n s ≡ behind_reads (n - k) (behind_reads k s) = ap (λ m. behind_reads m s) (sym count) ∙ fold-reads k (n - k) s in
    let more = stays (n - k) (behind_reads k s) (reads-plain k s plain) first.1 in
    record {
      ended = rw split (more.ended first.0);
      nothing_left = rw split (ap rest more.input ∙ first.1);
      same_tokens = rw split more.kept;
      same_errors = rw split more.errors;
      same_comments = rw split more.comments;
    }

-- For a loop that reads to the end

-- a lexer behind k reads from a session, which all gave a token
pub record ReadSoFar (begin : Session) (k : ℕ) (l : LexerState) : Type 0 where
  pub state : l ≡ state_of (behind_reads k begin)
  pub left : k + most_tokens l ≤ most_tokens (state_of begin)
  pub plain : begin.reread ≡ None

pub so_far-start : (begin : Session) → begin.reread ≡ None → ReadSoFar begin 0 (state_of begin)
so_far-start begin plain = record { state = refl; left = omega arith; plain = plain }

-- none of these reads begins at a slash
pub so_far-plain : (begin : Session) (k : ℕ) (l : LexerState) → ReadSoFar begin k l → l.reread ≡ None
so_far-plain begin k l so = ap (λ x. x.reread) so.state ∙ reads-plain k begin so.plain

one_more : (k : ℕ) (s : Session) → fold act_on s (reads (suc k)) ≡ act_on (fold act_on s (reads k)) Read
one_more zero s = refl
one_more (suc k) s = one_more k (act_on s Read)

-- the tokens that were read so far, in order
abbrev pub read_tokens : Session → ℕ → List SpannedView
read_tokens begin k = reverse (kept_back (behind_reads k begin).past)

pub so_far-token : (begin : Session) (k : ℕ) (l next : LexerState) (t : SpannedView) → ReadSoFar begin k l → (reading_of l).found ≡ Some t → next ≡ state_behind l (reading_of l)
    → ReadSoFar begin (suc k) next × (read_tokens begin (suc k) ≡ read_tokens begin k ++ t ∷ [])
so_far-token begin k l next t so found moved =
    let s = behind_reads k begin in
    let gives : (reading_of (state_of s)).found ≡ Some t = ap (λ x. (reading_of x).found) (sym so.state) ∙ found in
    let more = one_more k begin in
    let behind : next ≡ state_of (act_on s Read) = moved ∙ ap (λ x. state_behind x (reading_of x)) so.state ∙ sym (state-behind s) in
    let plain = reads-plain k begin so.plain in
    let less : most_tokens next < most_tokens l = rw moved (tokens_run_out l t (ap (λ x. x.reread) so.state ∙ plain) found) in
    let kept : kept_back (act_on s Read).past ≡ t ∷ kept_back s.past =
    ap (λ o. kept_back (given_in (is_some s.reread) (reading_of (state_of s)).end_flag o ∷ s.past)) gives
    ∙ ap (λ r. kept_back (given_in (is_some r) (reading_of (state_of s)).end_flag (Some t) ∷ s.past)) plain in (
      record { state = behind ∙ ap state_of (sym more); left = omega (arith, so.left, less); plain = so.plain },
      ap (λ x. reverse (kept_back x.past)) more ∙ ap reverse kept ∙ reverse_onto (kept_back s.past) t [],
    )

-- the read that answers the end: the tokens are all that there are, and the errors and comments too
pub so_far-end : (begin : Session) (k : ℕ) (l next : LexerState) → ReadSoFar begin k l → (reading_of l).found ≡ None → next ≡ state_behind l (reading_of l)
    → (read_tokens begin k ≡ tokens_of begin) × (next.errors ≡ errors_of begin) × (next.comments ≡ comments_of begin)
unfolding tokens_of errors_of comments_of
so_far-end begin k l next so none moved =
    let s = behind_reads k begin in
    let n : ℕ = enough begin.input in
    let room : k + 1 ≤ n = omega (arith, so.left, most-enough begin) in
    let count : k + suc (n - (k + 1)) ≡ n = omega arith in
    let ends : (reading_of (state_of s)).found ≡ None = ap (λ x. (reading_of x).found) (sym so.state) ∙ none in
    let plain = reads-plain k begin so.plain in
    let there : rest (act_on s Read).input ≡ [] = nothing-left (state_of s) plain ends in
    let kept : kept_back (act_on s Read).past ≡ kept_back s.past = ap (λ o. kept_back (given_in (is_some s.reread) (reading_of (state_of s)).end_flag o ∷ s.past)) ends in
    let more = stays (n - (k + 1)) (act_on s Read) plain there in
    let split : behind_reads n begin ≡ behind_reads (n - (k + 1)) (act_on s Read) =
    ap (λ m. behind_reads m begin) (sym count) ∙ fold-reads k (suc (n - (k + 1))) begin in
    let behind : next ≡ state_of (act_on s Read) = moved ∙ ap (λ x. state_behind x (reading_of x)) so.state ∙ sym (state-behind s) in (
      sym (ap (λ x. reverse (kept_back x.past)) split ∙ ap reverse (more.kept ∙ kept)),
      ap (λ x. x.errors) behind ∙ sym (ap (λ x. x.errors) split ∙ more.errors),
      ap (λ x. x.comments) behind ∙ sym (ap (λ x. x.comments) split ∙ more.comments),
    )

-- the cursor is not before the place where a template was opened
pub opened-kept : (mode : Mode) (input now : Cursor) (opened : ℕ) → opened ≤ place input → now ≡ (reading mode input).input → opened ≤ place now
opened-kept mode input now opened before moved =
    let further = (reading-on mode input).further in
    let stands : place now ≡ place (reading mode input).input = ap place moved in
    omega (arith, before, further, stands)

-- once the end was answered, it is answered again
pub end_answered_again : (l next : LexerState) → l.reread ≡ None → (reading_of l).found ≡ None → next ≡ state_behind l (reading_of l) → (reading_of next).found ≡ None
end_answered_again l next plain none moved =
    let there : rest next.input ≡ [] = ap (λ x. rest x.input) moved ∙ nothing-left l plain none in
    ap (λ r. r.found) (plain-reading next (ap (λ x. x.reread) moved ∙ plain) ∙ reading-end (mode_of next) next.input there)

-- the same of a read that may have been refused
pub end_again : {T E : Type 0} → (seen : T → SpannedView) (answer : Result (Option T) E) (l next : LexerState) → l.reread ≡ None
    → IfOk answer (λ found. option_map seen found ≡ (reading_of l).found) → OnOk answer (next ≡ state_behind l (reading_of l))
    → IfOk answer (λ found. found ≡ None → (reading_of next).found ≡ None)
end_again seen (Ok found) l next plain finds moved = λ none. end_answered_again l next plain (sym finds ∙ ap (option_map seen) none) moved
end_again seen (Err e) l next plain finds moved = tt
