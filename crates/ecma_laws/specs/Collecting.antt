-- What the collecting of comments changes, and what it keeps.
use Rattle.std.specs.Prelude.{ℕ, ◌≡◌, Bool, false, List, [], ◌∷◌, ◌++◌, filter, length, map}
use Rattle.ecma_place.specs.Cursor.{Cursor}
use Rattle.ecma_place.specs.declared.comment.Comment.{Comment}
use Rattle.ecma_state.specs.Counting.{counting}
use Rattle.ecma_state.specs.Run.{act_on, reading_of, run, session, start_of}
use Rattle.ecma_state.specs.Session.{Session, state_of}
use Rattle.ecma_state.specs.declared.settings.Settings.{Settings}
use Rattle.ecma_state.specs.declared.step.Step.{Step}
use Rattle.ecma_state.specs.declared.step.Step.TheVariants.{Read, SetCtx, SetExprAllowed, SetContexts, PopContext, Reread, Withdraw, Save, Back, TakeErrors}

-- settings by which no comment is collected
abbrev pub uncollecting : Settings → Settings
uncollecting settings = record settings { comments = false }

-- a session as it would be where no comment is collected
abbrev pub without_comments : Session → Session
without_comments s = record s { settings = uncollecting s.settings; comments = [] }

-- the comments that a step found, in order
abbrev pub found_by : Session → Step → List Comment
found_by s Read = map (λ c. c.0) (reading_of (state_of s)).comments
found_by s (SetCtx context) = []
found_by s (SetExprAllowed allowed) = []
found_by s (SetContexts contexts) = []
found_by s PopContext = []
found_by s Reread = []
found_by s Withdraw = []
found_by s TakeErrors = []
found_by s Save = []
found_by s (Back n) = []

-- those that the reads of counting steps found
abbrev pub comments_found : Session → List Step → List Comment
comments_found s [] = []
comments_found s (step ∷ steps) = found_by s step ++ comments_found (act_on s step) steps

abbrev pub count : {A : Type 0} → (A → Bool) → List A → ℕ
count passes items = length (filter passes items)

-- Laws

-- Where comments are collected the steps answer what they answer where none is, and the run comes to a session that differs in
-- nothing but the comments.
pub record IsSameButCollected (settings : Settings) (input : Cursor) (steps : List Step) : Type 0 where
  pub answers : run settings input steps ≡ run (uncollecting settings) input steps
  pub comes_to : without_comments (session settings input steps) ≡ session (uncollecting settings) input steps

-- Collecting comments changes no answer, token, flag or error, nor anything else but the comments.
abbrev pub CollectingChangesNothing : Type 0
CollectingChangesNothing = (settings : Settings) (input : Cursor) (steps : List Step) → IsSameButCollected settings input steps

-- Each comment that was found is kept once: whatever is asked of a comment, as many of those that are kept answer it as of
-- those that were found.
abbrev pub CommentsAreKept : Type 0
CommentsAreKept =
    (settings : Settings) (input : Cursor) (steps : List Step) (passes : Comment → Bool)
    → count passes (map (λ b. b.comment) (session settings input steps).comments)
    ≡ count passes (comments_found (start_of settings input) (counting steps))
