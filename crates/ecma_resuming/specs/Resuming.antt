-- Going on from a checkpoint over the rest of a text: our own choice, as ECMA-262 reads a text once.
use Rattle.std.specs.Prelude.{ℕ, ◌≡◌, ◌+◌, ◌<◌, ◌^◌, Bool, true, false, List, [], ◌++◌, Option, Some, None, drop, length, nat_lt, if◌then◌else◌}
use Rattle.std.specs.List.{list_all}
use Rattle.std.specs.Str.{chars}
use Rattle.ecma_place.specs.Cursor.{Cursor, index_of, place, rest}
use Rattle.ecma_place.specs.Text.{Text, place_of}
use Rattle.ecma_place.specs.declared.place.BytePos.{BytePos}
use Rattle.ecma_state.specs.Counting.{counting, none_yet}
use Rattle.ecma_state.specs.Disposition.{Errors, no_errors}
use Rattle.ecma_state.specs.Run.{act_all, answers_behind, at_place}
use Rattle.ecma_state.specs.Session.{Session, state_of}
use Rattle.ecma_state.specs.State.{last_slash}
use Rattle.ecma_state.specs.declared.step.Step.{Step}
use Rattle.ecma_state.specs.declared.step.Step.TheVariants.{TakeErrors}
use Rattle.ecma_checkpoint.specs.Checkpoints.{CheckpointValue, Fits, checkpoint_of, resumed}
use Rattle.ecma_rewinding.specs.Rewinding.{take_none}

-- Where the rest begins

-- a slash, where there is one before a place
abbrev pub or_slash : Option BytePos → BytePos → BytePos
or_slash None p = p
or_slash (Some slash) p = if nat_lt slash.0 p.0 then slash else p

-- where the rest begins that a lexer goes on over: at its place, or at a slash before it that is read again, or may be
abbrev pub begin_of : CheckpointValue → BytePos
begin_of c = or_slash (last_slash c.state.seen) (or_slash c.reread c.at)

-- a cursor before a text that begins at a place
abbrev pub text_from : BytePos → Text → Cursor
text_from p text = record { start = p.0; text = text; at = 0 }

-- the rest of a text, from there on
abbrev pub rest_of : CheckpointValue → Cursor → Cursor
rest_of c whole = text_from (begin_of c) (drop (index_of whole (begin_of c).0) whole.text)

-- the bytes of a text, as what a lexer goes on over from a checkpoint
abbrev pub text_over : CheckpointValue → List ℕ → Cursor
text_over c bytes = text_from (begin_of c) (chars bytes)

-- a checkpoint fits them, and their places are numbers of 32 bits
pub record IsResumed (c : CheckpointValue) (bytes : List ℕ) : Type 0 where
  pub places : (begin_of c).0 + length bytes < 2 ^ 32
  pub fits : Fits c (text_over c bytes)

-- A text is the rest of another: it stands there behind a front, and begins at the place behind that.
pub record IsRestOf (part whole : Cursor) : Type 0 where
  pub front : Text
  pub text : whole.text ≡ front ++ part.text
  pub begin : part.start ≡ place_of whole.start front

-- Going on

-- the session that a lexer has come to that goes on over the rest of a text from where one is over the whole
abbrev pub resumed_in : Cursor → Session → Session
resumed_in part s = record s { input = at_place (record { 0 = place s.input }) part; errors = no_errors; comments = [] }

-- the errors of before, and behind them those that came since
abbrev pub errors_joined : Errors → Errors → Errors
errors_joined first more = record { recorded = first.recorded ++ more.recorded; waiting = first.waiting ++ more.waiting }

-- Behind `before` a session over the rest of a text has come to what one over the whole text has. The same is left at the same
-- place, and they differ in nothing but that the whole text has the errors and comments of before too, in front of those that
-- came since.
pub record ComesToTheSame (before part whole : Session) : Type 0 where
  pub left : rest part.input ≡ rest whole.input
  pub stands : place part.input ≡ place whole.input
  pub same :
      record part { input = whole.input; errors = errors_joined before.errors part.errors; comments = before.comments ++ part.comments } ≡ whole

-- a step does not ask for the errors
abbrev pub asks_no_errors : Step → Bool
asks_no_errors TakeErrors = false
asks_no_errors _ = true

-- Laws

-- a text has a rest from where a checkpoint wants it, and the checkpoint fits that
pub record HasRest (c : CheckpointValue) (whole : Cursor) : Type 0 where
  pub is : IsRestOf (rest_of c whole) whole
  pub fits : Fits c (rest_of c whole)

-- A checkpoint that fits a text fits the rest of it from where it wants that.
abbrev pub RestsAreThere : Type 0
RestsAreThere = (c : CheckpointValue) (whole : Cursor) → Fits c whole → HasRest c whole

-- A lexer that is resumed has come to a session, from which it goes on.
abbrev pub ResumingBegins : Type 0
ResumingBegins =
    (s : Session) (part : Cursor) → state_of (resumed_in part s) ≡ resumed s.settings (checkpoint_of (state_of s)) part

-- Wherever a session is in a text, and whatever steps follow: over the rest of the text they answer what they answer over the
-- whole text.
abbrev pub StepsAnswerOverTheRest : Type 0
StepsAnswerOverTheRest =
    (s : Session) (part : Cursor) (steps : List Step) → IsRestOf part s.input → Fits (checkpoint_of (state_of s)) part
    → list_all asks_no_errors steps ≡ true → answers_behind (resumed_in part s) none_yet steps ≡ answers_behind s none_yet steps

-- And they come to the same, where they take no errors away.
abbrev pub StepsGoOnOverTheRest : Type 0
StepsGoOnOverTheRest =
    (s : Session) (part : Cursor) (steps : List Step) → IsRestOf part s.input → Fits (checkpoint_of (state_of s)) part
    → take_none s (counting steps) ≡ true
    → ComesToTheSame s (act_all (resumed_in part s) (counting steps)) (act_all s (counting steps))
