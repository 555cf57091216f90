-- A lexer that has what was found before on ways through trees: what steps do to it is what they do to a lexer that has all.
use Rattle.std.proofs.Common.{true≢false, ◌≡◌, ◌∙◌, Bool, true, false, List, arith, append_assoc, [], ◌∷◌, ◌++◌, drop, map, reverse, refl, sym, subst, ap, Option, Some, None}
use Rattle.std.specs.Prelude.{is_some, cond}
use Rattle.std.proofs.lemmas.List.{append-nil, map-append}
use Rattle.ecma_token.specs.View.{SpannedView, ErrorView, error_view, spanned_view}
use Rattle.ecma_token.specs.declared.error.Error.{Error}
use Rattle.ecma_comments.specs.declared.comments_buffer.BufferedComment.{BufferedComment}
use Rattle.ecma_grammar.specs.Found.{Fault}
use Rattle.ecma_syntax.specs.declared.context.Context.{Context}
use Rattle.ecma_state.specs.Disposition.{Disposition, Dropped, Errors, Recorded, Waiting, disposed, disposition, no_errors, with_context, with_fault, with_faults}
use Rattle.ecma_state.specs.Reading.{Reading}
use Rattle.ecma_state.specs.Run.{Acted, Done, Errors', act, act_all, act_on, answer_in, given_in, reading_from, reading_of, state_behind, state_in, state_without_errors}
use Rattle.ecma_state.specs.Session.{LexerState, LexerValue, Past, Session, kept_back, kept_of, lexer_state, state_of}
use Rattle.ecma_state.specs.declared.step.Step.{Step}
use Rattle.ecma_state.specs.declared.step.Step.TheVariants.{Read, SetCtx, TakeErrors}
use Rattle.ecma_stream.proofs.EndingLemmas.{state-behind}
use Rattle.ecma_stream.specs.View.{drained}
use Rattle.ecma_token.specs.declared.token.TokenAndSpan.{TokenAndSpan}
use Rattle.ecma_trees.specs.Trees.{way}
use Rattle.ecma_trees.proofs.TreeLemmas.{way-none}
use Rattle.ecma_replay.proofs.WayLemmas.{all-within, errors-added, errors-grown, list-added, same-errors, stays-list, way-grown}
use Rattle.ecma_replay.specs.Playing.{Acts, Adds, AllAt, AreWithin, BranchValue, Delivers, Enters, Grow, IsAt, Keeps, all_recorded, delivered, errors_behind, no_ways, errors_to, joined, list_to, state_behind_found, without}
use Rattle.ecma_replay.specs.declared.answer.Answer.TheVariants as answers
use Rattle.ecma_replay.specs.declared.trees.Trees.{Trees}
use Rattle.ecma_replay.specs.declared.trees.Ways.{Ways}

-- Trees that grow

joined-grown : (old new : Trees) (w : Ways) (l : LexerState) → Grow old new → AreWithin w old → joined new w l ≡ joined old w l
joined-grown old new w l grow within =
    ap (λ e. state_behind_found e (list_to w.comments new.comments) l) (errors-grown old new w grow within)
    ∙ ap (λ c. state_behind_found (errors_to old w) (reverse c) l) (way-grown old.comments new.comments w.comments grow.comments within.comments)

pub at-grown : (old new : Trees) → Grow old new → (s : Session) (b : BranchValue) → IsAt old s b → IsAt new s b
at-grown old new grow s b at = record {
  state = joined-grown old new b.ways (lexer_state b.lexer) grow at.within ∙ at.state;
  kept = way-grown old.kept new.kept b.ways.kept grow.kept at.within.kept ∙ at.kept;
  within = all-within old new b.ways grow at.within;
}

pub all-grown : (old new : Trees) → Grow old new → (begin : Session) (steps : List (List Step)) (bs : List BranchValue) → AllAt old begin steps bs → AllAt new begin steps bs
all-grown old new grow begin [] [] all = tt
all-grown old new grow begin [] (b ∷ bs) all = absurd all
all-grown old new grow begin (xs ∷ xss) [] all = absurd all
all-grown old new grow begin (xs ∷ xss) (b ∷ bs) all = (at-grown old new grow (act_all begin xs) b all.0, all-grown old new grow begin xss bs all.1)

-- A lexer that has errors and comments of before

reading-joined : (e : Errors) (c : List BufferedComment) (l : LexerState) → reading_of (state_behind_found e c l) ≡ reading_of l
reading-joined e c l = go l.reread
  where
    go : (slash : Option _) → reading_from slash (state_behind_found e c l) ≡ reading_from slash l
    go None = refl
    go (Some p) = refl

disposed-joined : (e own : Errors) (error : ErrorView) (to : Disposition) → disposed (errors_behind e own) error to ≡ errors_behind e (disposed own error to)
disposed-joined e own error Recorded = same-errors _ _ _ _ (append_assoc e.recorded own.recorded (error ∷ [])) refl
disposed-joined e own error Waiting = same-errors _ _ _ _ refl (append_assoc e.waiting own.waiting (error ∷ []))
disposed-joined e own error Dropped = refl

faults-joined : (context : Context) (e own : Errors) (faults : List Fault) → with_faults context (errors_behind e own) faults ≡ errors_behind e (with_faults context own faults)
faults-joined context e own [] = refl
faults-joined context e own (f ∷ faults) =
    ap (λ all. with_faults context all faults) (disposed-joined e own f.error (disposition context f.blame))
    ∙ faults-joined context e (with_fault context own f) faults

same-lists : (l : LexerState) (errors more : Errors) (comments others : List BufferedComment) → errors ≡ more → comments ≡ others → record l { errors = errors; comments = comments } ≡ record l { errors = more; comments = others }
same-lists l errors more comments others one two = rw (one, two) refl

behind-joined : (e : Errors) (c : List BufferedComment) (l : LexerState) (r : Reading) → state_behind (state_behind_found e c l) r ≡ state_behind_found e c (state_behind l r)
behind-joined e c l r = same-lists (state_behind l r) _ _ _ _ (faults-joined l.context e l.errors r.faults) (append_assoc c l.comments _)

read-joined : (e : Errors) (c : List BufferedComment) (l : LexerState) (s : Session) → state_behind_found e c l ≡ state_of s → state_behind_found e c (state_behind l (reading_of l)) ≡ state_of (act_on s Read)
read-joined e c l s is =
    sym (behind-joined e c l (reading_of l))
    ∙ ap (state_behind (state_behind_found e c l)) (sym (reading-joined e c l))
    ∙ ap (λ k. state_behind k (reading_of k)) is
    ∙ sym (state-behind s)

found-joined : (e : Errors) (c : List BufferedComment) (l : LexerState) (s : Session) → state_behind_found e c l ≡ state_of s → (reading_of l).found ≡ (reading_of (state_of s)).found
found-joined e c l s is = ap (λ r. r.found) (sym (reading-joined e c l) ∙ ap reading_of is)

-- What a lexer found goes to the trees

pub settled : (old new : Trees) (s : Session) (b : BranchValue) (now : LexerValue) (to : Ways) (recorded waiting : List Error) (comments : List BufferedComment) → IsAt old s b
    → Adds old b.ways recorded waiting comments new to
    → map error_view recorded ≡ (lexer_state b.lexer).errors.recorded → map error_view waiting ≡ (lexer_state b.lexer).errors.waiting → comments ≡ b.lexer.comments
    → lexer_state now ≡ drained (lexer_state b.lexer) → IsAt new s (record { lexer = now; ways = to })
settled old new s b now to recorded waiting comments at adds are_recorded are_waiting are_comments is_drained = record {
  state = ap (joined new to) is_drained ∙ same-lists (lexer_state b.lexer) _ _ _ _ errors found ∙ at.state;
  kept = ap (λ n. way n new.kept) adds.way_kept ∙ ap (way b.ways.kept) adds.kept ∙ at.kept;
  within = adds.within at.within;
}
  where
    errors : errors_behind (errors_to new to) (record { recorded = []; waiting = [] }) ≡ errors_behind (errors_to old b.ways) (lexer_state b.lexer).errors
    errors = same-errors _ _ _ _ (errors-added recorded _ _ _ adds.to_recorded are_recorded) (errors-added waiting _ _ _ adds.to_waiting are_waiting)

    found : list_to to.comments new.comments ++ [] ≡ list_to b.ways.comments old.comments ++ b.lexer.comments
    found =
        append-nil (list_to to.comments new.comments) ∙ list-added comments _ _ adds.to_comments ∙ ap (λ l. list_to b.ways.comments old.comments ++ l) are_comments

-- Reads

kept-behind : (again : Bool) (flag : Bool) (t : SpannedView) (past : Past) → map kept_of (kept_back (given_in again flag (Some t) ∷ past)) ≡ kept_of t ∷ without again (map kept_of (kept_back past))
kept-behind false flag t past = refl
kept-behind true flag t past = ap (λ l. kept_of t ∷ l) (go (kept_back past))
  where
    go : (l : List SpannedView) → map kept_of (drop 1 l) ≡ drop 1 (map kept_of l)
    go [] = refl
    go (x ∷ l) = refl

pub read-token : (old new : Trees) (s : Session) (b : BranchValue) (now : LexerValue) (to : Ways) (token : TokenAndSpan) (again : Bool) → IsAt old s b → again ≡ is_some b.lexer.reread
    → Some (spanned_view token) ≡ (reading_of (lexer_state b.lexer)).found → lexer_state now ≡ state_behind (lexer_state b.lexer) (reading_of (lexer_state b.lexer))
    → Keeps old b.ways (kept_of (spanned_view token)) again new to → Acts new (act s Read) (answers.Token token) (record { lexer = now; ways = to })
read-token old new s b now to token again at is_again found after keeps = record {
  answered = ap answer_in (found ∙ same);
  after = record {
    state = ap (joined new to) after
        ∙ ap (λ w. joined new w behind) keeps.others
        ∙ ap (λ (t : Trees). joined t (record b.ways { kept = to.kept }) behind) keeps.rest
        ∙ read-joined (errors_to old b.ways) (list_to b.ways.comments old.comments) l s at.state;
    kept = keeps.kept ∙ ap (λ k. kept_of (spanned_view token) ∷ without again k) at.kept
        ∙ ap (λ a. kept_of (spanned_view token) ∷ without a (map kept_of (kept_back s.past))) (is_again ∙ ap (λ k. is_some k.reread) at.state)
        ∙ sym (kept-behind (is_some s.reread) r.end_flag (spanned_view token) s.past)
        ∙ ap (λ f. map kept_of (kept_back (given_in (is_some s.reread) r.end_flag f ∷ s.past))) (found ∙ same);
    within = within;
  };
}
  where
    l : LexerState
    l = lexer_state b.lexer

    behind : LexerState
    behind = state_behind l (reading_of l)

    r : Reading
    r = reading_of (state_of s)

    same : (reading_of l).found ≡ r.found
    same = found-joined (errors_to old b.ways) (list_to b.ways.comments old.comments) l s at.state

    grow : Grow old new
    grow = subst (Grow old) (sym keeps.rest) (record { kept = keeps.grows; recorded = stays-list old.recorded; waiting = stays-list old.waiting; comments = stays-list old.comments })

    within : AreWithin to new
    within = subst (λ (w : Ways). AreWithin w new) (sym keeps.others)
        (let other = all-within old new b.ways grow at.within in record { kept = keeps.within; recorded = other.recorded; waiting = other.waiting; comments = other.comments })

pub read-end : (t : Trees) (s : Session) (b : BranchValue) (now : LexerValue) → IsAt t s b
    → None ≡ (reading_of (lexer_state b.lexer)).found → lexer_state now ≡ state_behind (lexer_state b.lexer) (reading_of (lexer_state b.lexer))
    → Acts t (act s Read) answers.End (record { lexer = now; ways = b.ways })
read-end t s b now at found after = record {
  answered = ap answer_in none;
  after = record {
    state = ap (joined t b.ways) after ∙ read-joined (errors_to t b.ways) (list_to b.ways.comments t.comments) (lexer_state b.lexer) s at.state;
    kept = at.kept ∙ ap (λ f. map kept_of (kept_back (given_in (is_some s.reread) (reading_of (state_of s)).end_flag f ∷ s.past))) none;
    within = at.within;
  };
}
  where
    none : None ≡ (reading_of (state_of s)).found
    none = found ∙ found-joined (errors_to t b.ways) (list_to b.ways.comments t.comments) (lexer_state b.lexer) s at.state

-- Errors that wait are recorded

pub is-delivered : (old new : Trees) (s : Session) (b : BranchValue) (to : Ways) → IsAt old s b → (lexer_state b.lexer).errors ≡ no_errors → Delivers old b.ways new to
    → IsAt new (delivered s) (record { lexer = b.lexer; ways = to })
is-delivered old new s b to at none delivers = record {
  state = same-lists l _ _ _ _ errors comments ∙ ap (λ (k : LexerState). record k { errors = all_recorded k.errors }) at.state;
  kept = ap (λ n. way n new.kept) delivers.kept ∙ ap (λ (t : Trees). way b.ways.kept t.kept) delivers.rest ∙ at.kept;
  within = delivers.within at.within;
}
  where
    l : LexerState
    l = lexer_state b.lexer

    before : Errors
    before = errors_to old b.ways

    errors : errors_behind (errors_to new to) l.errors ≡ all_recorded (errors_behind before l.errors)
    errors =
        ap (λ e. errors_behind e l.errors) delivers.errors
        ∙ ap (errors_behind (all_recorded before)) none
        ∙ same-errors _ _ _ _ (append-nil (before.recorded ++ before.waiting)
        ∙ ap (λ r. r ++ before.waiting) (sym (append-nil before.recorded))
        ∙ ap (λ w. (before.recorded ++ []) ++ w) (sym (append-nil before.waiting))) refl
        ∙ ap (λ e. all_recorded (errors_behind before e)) (sym none)

    comments : list_to to.comments new.comments ++ l.comments ≡ list_to b.ways.comments old.comments ++ l.comments
    comments = ap (λ n. list_to n new.comments ++ l.comments) delivers.comments ∙ ap (λ (t : Trees). list_to b.ways.comments t.comments ++ l.comments) delivers.rest

-- Contexts

context-joined : (context : Context) (e : Errors) (c : List BufferedComment) (l : LexerState) → (context.«module» ≡ true → e.waiting ≡ []) → state_behind_found e c (state_in context l) ≡ state_in context (state_behind_found e c l)
context-joined context e c l none = same-lists (record l { context = context }) _ _ _ _ (go context.«module» refl) refl
  where
    go : (b : Bool) → context.«module» ≡ b
        → errors_behind e (cond b (record { recorded = l.errors.recorded ++ l.errors.waiting; waiting = [] }) l.errors)
        ≡ cond b (record { recorded = (e.recorded ++ l.errors.recorded) ++ (e.waiting ++ l.errors.waiting); waiting = [] }) (errors_behind e l.errors)
    go false h = refl
    go true h =
        same-errors _ _ _ _ (sym (append_assoc e.recorded l.errors.recorded l.errors.waiting) ∙ ap (λ w. (e.recorded ++ l.errors.recorded) ++ (w ++ l.errors.waiting)) (sym (none h)))
        (ap (λ w. w ++ []) (none h))

pub context-set : (t : Trees) (s : Session) (b : BranchValue) (now : LexerValue) (context : Context) → IsAt t s b → (context.«module» ≡ true → (errors_to t b.ways).waiting ≡ [])
    → lexer_state now ≡ state_in context (lexer_state b.lexer) → Acts t (act s (SetCtx context)) answers.Done (record { lexer = now; ways = b.ways })
context-set t s b now context at none after = record {
  answered = refl;
  after = record {
    state = ap (joined t b.ways) after ∙ context-joined context (errors_to t b.ways) (list_to b.ways.comments t.comments) (lexer_state b.lexer) none ∙ ap (state_in context) at.state;
    kept = at.kept;
    within = at.within;
  };
}

-- no errors wait on a way where none do at all
none-first : {A : Type 0} (xs ys : List A) → xs ++ ys ≡ [] → xs ≡ []
none-first [] ys e = refl
none-first (x ∷ xs) ys e = cc

-- the errors that wait may be recorded before
pub delivered-first : (t : Trees) (s : Session) (context : Context) (b : BranchValue) → context.«module» ≡ true → IsAt t (delivered s) b → Enters t s context b
delivered-first t s context b is at = record {
  from = delivered s;
  at = at;
  same = ap (λ (e : Errors). let a : Acted = record { after = record s { context = context; errors = e }; answer = Done } in a) same;
  none = λ h. none-first (errors_to t b.ways).waiting (lexer_state b.lexer).errors.waiting (ap (λ k. k.errors.waiting) at.state);
}
  where
    same : with_context context (all_recorded s.errors) ≡ with_context context s.errors
    same = rw is (ap (λ (r : List ErrorView). let e : Errors = record { recorded = r; waiting = [] } in e) (append-nil (s.errors.recorded ++ s.errors.waiting)))

pub enters-there : (t : Trees) (s : Session) (context : Context) (b : BranchValue) → IsAt t s b → (context.«module» ≡ true → (errors_to t b.ways).waiting ≡ []) → Enters t s context b
enters-there t s context b at none = record { from = s; at = at; same = refl; none = none }

pub enters-none : (t : Trees) (s : Session) (context : Context) (b : BranchValue) → IsAt t s b → b.ways.waiting ≡ 0 → Enters t s context b
enters-none t s context b at none =
    enters-there t s context b at (λ h. ap (λ n. map error_view (list_to n t.waiting)) none ∙ ap (λ l. map error_view (reverse l)) (way-none t.waiting))

pub enters-outside : (t : Trees) (s : Session) (context : Context) (b : BranchValue) → IsAt t s b → context.«module» ≡ false → Enters t s context b
enters-outside t s context b at is = enters-there t s context b at (λ h. absurd (true≢false (sym h ∙ is)))

pub context-entered : (t : Trees) (s : Session) (b : BranchValue) (now : LexerValue) (context : Context) → Enters t s context b
    → lexer_state now ≡ state_in context (lexer_state b.lexer) → Acts t (act s (SetCtx context)) answers.Done (record { lexer = now; ways = b.ways })
context-entered t s b now context enters after =
    subst (λ a. Acts t a answers.Done (record { lexer = now; ways = b.ways })) enters.same (context-set t enters.from b now context enters.at enters.none after)

-- Errors that are taken

pub errors-taken : (t : Trees) (s : Session) (b : BranchValue) (now : LexerValue) (to : Ways) (before found : List Error) (all : List Error) → IsAt t s b
    → map error_view before ≡ (errors_to t b.ways).recorded → map error_view found ≡ (lexer_state b.lexer).errors.recorded → all ≡ before ++ found → to ≡ record b.ways { recorded = 0 }
    → lexer_state now ≡ state_without_errors (lexer_state b.lexer) → Acts t (act s TakeErrors) (answers.Errors all) (record { lexer = now; ways = to })
errors-taken t s b now to before found all at first after_them is ways after = record {
  answered = ap Errors' (ap (map error_view) is ∙ map-append error_view before found ∙ ap (λ l. l ++ map error_view found) first ∙ ap (λ l. (errors_to t b.ways).recorded ++ l) after_them ∙ ap (λ k. k.errors.recorded) at.state);
  after = record {
    state = ap (joined t to) after
        ∙ ap (λ w. joined t w (state_without_errors (lexer_state b.lexer))) ways
        ∙ ap (λ (r : List ErrorView). let e : Errors = record { recorded = r ++ []; waiting = (errors_to t b.ways).waiting ++ (lexer_state b.lexer).errors.waiting } in record (lexer_state b.lexer) { errors = e; comments = list_to b.ways.comments t.comments ++ b.lexer.comments }) (ap (λ l. map error_view (reverse l)) (way-none t.recorded))
        ∙ ap state_without_errors at.state;
    kept = ap (λ (w : Ways). way w.kept t.kept) ways ∙ at.kept;
    within = subst (λ (w : Ways). AreWithin w t) (sym ways) (record { kept = at.within.kept; recorded = omega arith; waiting = at.within.waiting; comments = at.within.comments });
  };
}

-- before any step
pub nothing-found : (t : Trees) (s : Session) (b : BranchValue) → lexer_state b.lexer ≡ state_of s → s.past ≡ [] → b.ways ≡ no_ways → IsAt t s b
nothing-found t s b shows new none = record {
  state = ap (λ w. joined t w (lexer_state b.lexer)) none
      ∙ same-lists (lexer_state b.lexer) _ _ _ _ (same-errors _ _ _ _ (ap (λ l. map error_view (reverse l) ++ (lexer_state b.lexer).errors.recorded) (way-none t.recorded)) (ap (λ l. map error_view (reverse l) ++ (lexer_state b.lexer).errors.waiting) (way-none t.waiting)))
      (ap (λ l. reverse l ++ b.lexer.comments) (way-none t.comments))
      ∙ shows;
  kept = ap (λ (w : Ways). way w.kept t.kept) none ∙ way-none t.kept ∙ ap (λ past. map kept_of (kept_back past)) (sym new);
  within = subst (λ (w : Ways). AreWithin w t) (sym none) (record { kept = omega arith; recorded = omega arith; waiting = omega arith; comments = omega arith });
}
