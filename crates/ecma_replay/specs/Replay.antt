-- What a replay keeps, and how it stands to the run of its steps.
use Rattle.std.specs.Prelude.{◌≡◌, List, map, reverse}
use Rattle.ecma_place.specs.Cursor.{Cursor, place}
use Rattle.ecma_place.specs.declared.place.Span.{Span}
use Rattle.ecma_token.specs.View.{error_view, spanned_view}
use Rattle.ecma_state.specs.Counting.{counting, none_yet}
use Rattle.ecma_state.specs.Run as run
use Rattle.ecma_state.specs.Run.{act_all, answers_behind, session}
use Rattle.ecma_state.specs.Session.{Session, has_ended, kept_tokens}
use Rattle.ecma_laws.specs.Tiling.{IsTiled, pieces_read}
use Rattle.ecma_replay.specs.declared.answer.Answer.{Answer}
use Rattle.ecma_replay.specs.declared.answer.Answer.TheVariants.{Token, End, Done, Errors, NoSlash, NoSave, NoContext}
use Rattle.ecma_replay.specs.declared.gathered.Gathered.{Gathered}
use Rattle.ecma_replay.specs.declared.replayed.Replay.{Replay}
use Rattle.ecma_state.specs.declared.settings.Settings.{Settings}
use Rattle.ecma_state.specs.declared.step.Step.{Step}

-- how an answer is seen
abbrev pub answer_view : Answer → run.Answer
answer_view (Token token) = run.Token' (spanned_view token)
answer_view End = run.End
answer_view Done = run.Done
answer_view (Errors errors) = run.Errors' (map error_view errors)
answer_view NoSlash = run.NoSlash
answer_view NoSave = run.NoSave
answer_view NoContext = run.NoContext

-- it tells what these steps answer, and where they come to from a session
pub record Replays (begin : Session) (steps : List Step) (r : Replay) : Type 0 where
  pub answers : map answer_view r.answers.items ≡ answers_behind begin none_yet steps
  pub kept : r.kept.items ≡ kept_tokens (act_all begin (counting steps))
  pub errors : map error_view r.errors ≡ (act_all begin (counting steps)).errors.recorded
  pub waiting : map error_view r.waiting ≡ (act_all begin (counting steps)).errors.waiting
  pub comments : r.comments.items ≡ (act_all begin (counting steps)).comments
  pub ended : r.ended ≡ has_ended (act_all begin (counting steps)).past

-- the spans of the tokens that it keeps, the newest first
abbrev pub spans_kept : Replay → List Span
spans_kept r = map (λ k. k.span) (reverse r.kept.items)

-- the tokens that it keeps, and the gap that each read read before them, tile the text of these steps
abbrev pub TilesText : Settings → Cursor → List Step → Replay → Type 0
TilesText settings input steps r =
    IsTiled input (spans_kept r) r.ended (place (session settings input steps).input) (pieces_read settings input steps)

-- the same but for the answers
pub record Gathers (begin : Session) (steps : List Step) (r : Gathered) : Type 0 where
  pub kept : r.kept.items ≡ kept_tokens (act_all begin (counting steps))
  pub errors : map error_view r.errors ≡ (act_all begin (counting steps)).errors.recorded
  pub waiting : map error_view r.waiting ≡ (act_all begin (counting steps)).errors.waiting
  pub comments : r.comments.items ≡ (act_all begin (counting steps)).comments
  pub ended : r.ended ≡ has_ended (act_all begin (counting steps)).past
