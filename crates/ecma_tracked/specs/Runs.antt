-- What reading by roles token by token comes to: the run of the steps by which a text is read by them.
use Rattle.std.specs.Prelude.{ℕ, ◌+◌, ◌≤◌, ◌≡◌, true, List, [], ◌∷◌, ◌++◌, Some, None}
use Rattle.ecma_place.specs.Cursor.{Cursor, IsWithin}
use Rattle.ecma_syntax.specs.declared.context.Context.{Context}
use Rattle.ecma_token.specs.View.{SpannedView}
use Rattle.ecma_checkpoint.specs.Checkpoints.{GoesBack, checkpoint_of}
use Rattle.ecma_rewinding.specs.Rewinding.{take_none}
use Rattle.ecma_state.specs.Run.{act_all, session}
use Rattle.ecma_state.specs.Session.{Session, has_ended, state_of}
use Rattle.ecma_state.specs.declared.settings.Settings.{Settings}
use Rattle.ecma_state.specs.declared.step.Step.{Step}
use Rattle.ecma_state.specs.Ending.{most_tokens}
use Rattle.ecma_slashes.specs.Rereads.{all_by, behind_by, by_role, entered, found_by, steps_to_end_by, text_steps_by}
use Rattle.ecma_slashes.specs.Roles.{tokens_kept}
use Rattle.ecma_tracked.specs.Marks.{GoesBackTo}
use Rattle.ecma_tracked.specs.States.{tracked_of}

-- From a session on these tokens were read by roles, none of which was the end, and a session is behind them. The steps by
-- which they were read are those with which all steps by roles begin, and none of them takes errors away.
pub record ReadsTo (begin : Session) (tokens : List SpannedView) (s : Session) : Type 0 where
  pub plain : begin.reread ≡ None
  pub plain_still : s.reread ≡ None
  pub steps : List Step
  pub there : s ≡ act_all begin steps
  pub count : ℕ
  pub first : (n : ℕ) → all_by by_role (count + n) begin ≡ steps ++ all_by by_role n s
  pub left : count + most_tokens (state_of s) ≤ most_tokens (state_of begin)
  pub are_kept : tokens_kept s ≡ tokens_kept begin ++ tokens
  pub takes_none : take_none begin steps ≡ true

-- where a session comes to, read to its end
abbrev pub end_of : Session → Session
end_of s = act_all s (steps_to_end_by by_role s)

-- behind a session there is the end: all was read, and these are all tokens
pub record HasRead (begin : Session) (tokens : List SpannedView) (s : Session) : Type 0 where
  pub all : behind_by by_role s ≡ end_of begin
  pub are_kept : tokens_kept (end_of begin) ≡ tokens_kept begin ++ tokens
  pub ended : has_ended (end_of begin).past ≡ true

-- Laws

-- One begins to read at any session in which no slash is read again.
abbrev pub ReadingBegins : Type 0
ReadingBegins = (s : Session) → s.reread ≡ None → ReadsTo s [] s

-- It goes on with each token that is found,
abbrev pub ReadingGoesOn : Type 0
ReadingGoesOn =
    (begin : Session) (tokens : List SpannedView) (s : Session) (t : SpannedView) → ReadsTo begin tokens s → Some t ≡ found_by by_role s
    → ReadsTo begin (tokens ++ t ∷ []) (behind_by by_role s)

-- and ends where none is: there the session is which the steps to the end by roles come to.
abbrev pub ReadingEnds : Type 0
ReadingEnds = (begin : Session) (tokens : List SpannedView) (s : Session) → ReadsTo begin tokens s → None ≡ found_by by_role s → HasRead begin tokens s

-- So a text is read by the run of the steps by which roles have it read, of which the laws of runs hold, and its tokens are
-- those that this run keeps.
pub record IsTextRead (settings : Settings) (context : Context) (input : Cursor) (tokens : List SpannedView) (s : Session) : Type 0 where
  pub all : behind_by by_role s ≡ session settings input (text_steps_by by_role settings context input)
  pub are_kept : tokens ≡ tokens_kept (session settings input (text_steps_by by_role settings context input))

abbrev pub TextsAreRead : Type 0
TextsAreRead =
    (settings : Settings) (context : Context) (input : Cursor) (tokens : List SpannedView) (s : Session)
    → ReadsTo (entered settings context input) tokens s → None ≡ found_by by_role s → IsTextRead settings context input tokens s

-- A tracked lexer that has read tokens from a session on goes back there, and nothing is left of them; also behind the end.
abbrev pub ExcursionsAreUndone : Type 0
ExcursionsAreUndone =
    (begin s : Session) (tokens : List SpannedView) → IsWithin begin.input → GoesBack (checkpoint_of (state_of begin)) (state_of begin) → ReadsTo begin tokens s
    → GoesBackTo (tracked_of begin) (tracked_of s) × GoesBackTo (tracked_of begin) (tracked_of (behind_by by_role s))
