-- What a replay holds while it plays its steps, and how that stands to the run of these.
use Rattle.std.specs.Prelude.{◌≡◌, ◌≤◌, ◌++◌, ⊤, ℕ, Bool, true, false, List, [], ◌∷◌, Option, Some, None, drop, length, map, reverse}
use Rattle.ecma_token.specs.View.{error_view}
use Rattle.ecma_token.specs.declared.error.Error.{Error}
use Rattle.ecma_token.specs.declared.token.TokenAndSpan.{TokenAndSpan}
use Rattle.ecma_comments.specs.declared.comments_buffer.BufferedComment.{BufferedComment}
use Rattle.ecma_state.specs.Counting.{count_all, none_yet}
use Rattle.ecma_state.specs.Disposition.{Errors}
use Rattle.ecma_state.specs.Run.{Acted, act, act_all, answer_behind, answers_behind}
use Rattle.ecma_state.specs.Session.{LexerState, LexerValue, Session, kept_back, kept_of, lexer_state, state_of}
use Rattle.ecma_state.specs.declared.kept.Kept.{Kept}
use Rattle.ecma_state.specs.declared.step.Step.{Step}
use Rattle.ecma_state.specs.declared.step.Step.TheVariants.{SetCtx}
use Rattle.ecma_syntax.specs.declared.context.Context.{Context}
use Rattle.ecma_trees.specs.Trees.{Grows, way}
use Rattle.ecma_trees.specs.declared.tree.Node.{Node}
use Rattle.ecma_replay.specs.Replay.{answer_view}
use Rattle.ecma_replay.specs.declared.answer.Answer.{Answer}
use Rattle.ecma_replay.specs.declared.answer.Answer.TheVariants.{Token, End}
use Rattle.ecma_replay.specs.declared.trees.Trees.{Trees}
use Rattle.ecma_replay.specs.declared.trees.Ways.{Ways}

-- the number of nothing
abbrev pub no_ways : Ways
no_ways = record { kept = 0; recorded = 0; waiting = 0; comments = 0 }

-- what is on the way to a number, in order
abbrev pub list_to : {T : Type 0} → ℕ → List (Node T) → List T
list_to n nodes = reverse (way n nodes)

-- the errors on the ways
abbrev pub errors_to : Trees → Ways → Errors
errors_to t w = record { recorded = map error_view (list_to w.recorded t.recorded); waiting = map error_view (list_to w.waiting t.waiting) }

-- errors, and others behind them
abbrev pub errors_behind : Errors → Errors → Errors
errors_behind first more = record { recorded = first.recorded ++ more.recorded; waiting = first.waiting ++ more.waiting }

-- a lexer that has these errors and comments before its own
abbrev pub state_behind_found : Errors → List BufferedComment → LexerState → LexerState
state_behind_found errors comments l = record l { errors = errors_behind errors l.errors; comments = comments ++ l.comments }

-- a lexer that has what is on the ways before its own errors and comments
abbrev pub joined : Trees → Ways → LexerState → LexerState
joined t w l = state_behind_found (errors_to t w) (list_to w.comments t.comments) l

-- the ways lead to what was found
pub record AreWithin (w : Ways) (t : Trees) : Type 0 where
  pub kept : w.kept ≤ length t.kept
  pub recorded : w.recorded ≤ length t.recorded
  pub waiting : w.waiting ≤ length t.waiting
  pub comments : w.comments ≤ length t.comments

-- more was found
pub record Grow (old new : Trees) : Type 0 where
  pub kept : Grows old.kept new.kept
  pub recorded : Grows old.recorded new.recorded
  pub waiting : Grows old.waiting new.waiting
  pub comments : Grows old.comments new.comments

-- these tokens, or those before the newest
abbrev pub without : Bool → List Kept → List Kept
without true kept = drop 1 kept
without false kept = kept

-- One token came behind those on a way, or in the place of the newest.
pub record Keeps (old : Trees) (ways : Ways) (token : Kept) (again : Bool) (new : Trees) (to : Ways) : Type 0 where
  pub kept : way to.kept new.kept ≡ token ∷ without again (way ways.kept old.kept)
  pub others : to ≡ record ways { kept = to.kept }
  pub rest : new ≡ record old { kept = new.kept }
  pub within : to.kept ≤ length new.kept
  pub grows : Grows old.kept new.kept

-- Errors and comments came behind those on the ways.
pub record Adds (old : Trees) (ways : Ways) (recorded waiting : List Error) (comments : List BufferedComment) (new : Trees) (to : Ways) : Type 0 where
  pub to_recorded : way to.recorded new.recorded ≡ reverse recorded ++ way ways.recorded old.recorded
  pub to_waiting : way to.waiting new.waiting ≡ reverse waiting ++ way ways.waiting old.waiting
  pub to_comments : way to.comments new.comments ≡ reverse comments ++ way ways.comments old.comments
  pub way_kept : to.kept ≡ ways.kept
  pub kept : new.kept ≡ old.kept
  pub within : AreWithin ways old → AreWithin to new
  pub grows : Grow old new

-- those that wait are recorded
abbrev pub all_recorded : Errors → Errors
all_recorded e = record { recorded = e.recorded ++ e.waiting; waiting = [] }

abbrev pub delivered : Session → Session
delivered s = record s { errors = all_recorded s.errors }

-- The errors that wait on a way came behind those that were recorded on it.
pub record Delivers (old : Trees) (ways : Ways) (new : Trees) (to : Ways) : Type 0 where
  pub errors : errors_to new to ≡ all_recorded (errors_to old ways)
  pub kept : to.kept ≡ ways.kept
  pub comments : to.comments ≡ ways.comments
  pub rest : new ≡ record old { recorded = new.recorded }
  pub within : AreWithin ways old → AreWithin to new
  pub grows : Grow old new

-- a lexer, and the ways to what it found before
pub record BranchValue : Type 0 where
  pub lexer : LexerValue
  pub ways : Ways

-- it has come to a session, with what the trees have
pub record IsAt (t : Trees) (s : Session) (b : BranchValue) : Type 0 where
  pub state : joined t b.ways (lexer_state b.lexer) ≡ state_of s
  pub kept : way b.ways.kept t.kept ≡ map kept_of (kept_back s.past)
  pub within : AreWithin b.ways t

-- It has come to a session from which setting this context leads where it leads from another, and where the context is of
-- module code no errors wait on its way.
pub record Enters (t : Trees) (s : Session) (context : Context) (b : BranchValue) : Type 0 where
  pub from : Session
  pub at : IsAt t from b
  pub same : act from (SetCtx context) ≡ act s (SetCtx context)
  pub none : context.«module» ≡ true → (errors_to t b.ways).waiting ≡ []

-- the answer of a read, of which the token stands in a slot
abbrev pub answer_of : Option TokenAndSpan → Answer
answer_of (Some token) = Token token
answer_of None = End

-- a step answered and led to what it does in the run
pub record Acts (trees : Trees) (acted : Acted) (answer : Answer) (b : BranchValue) : Type 0 where
  pub answered : answer_view answer ≡ acted.answer
  pub after : IsAt trees acted.after b

-- as many have come to the sessions behind as many lists of counting steps
abbrev pub AllAt : Trees → Session → List (List Step) → List BranchValue → Type 0
AllAt trees begin [] [] = ⊤
AllAt trees begin [] (b ∷ bs) = ⊥
AllAt trees begin (steps ∷ more) [] = ⊥
AllAt trees begin (steps ∷ more) (b ∷ bs) = IsAt trees (act_all begin steps) b × AllAt trees begin more bs

-- what a list of steps has come to: the lexer that goes on, what lexers found, and the lexers that were saved
pub record CourseValue : Type 0 where
  pub branch : BranchValue
  pub trees : Trees
  pub saves : List BranchValue

-- it has come to where these steps lead
pub record Stands (begin : Session) (steps : List Step) (c : CourseValue) : Type 0 where
  pub branch : IsAt c.trees (act_all begin (count_all none_yet steps).steps) c.branch
  pub saves : AllAt c.trees begin (count_all none_yet steps).saves c.saves

-- one more step answered what it answers in the run, and led to where it does
pub record Responds (begin : Session) (steps : List Step) (step : Step) (answer : Answer) (c : CourseValue) : Type 0 where
  pub answered : answer_view answer ≡ answer_behind begin (count_all none_yet steps) step
  pub stands : Stands begin (steps ++ step ∷ []) c

-- these answers and this course are those of these steps
pub record Follows (begin : Session) (steps : List Step) (told : List Answer) (c : CourseValue) : Type 0 where
  pub answers : map answer_view told ≡ answers_behind begin none_yet steps
  pub stands : Stands begin steps c
