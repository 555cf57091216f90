-- Where a lexer is between two reads, as plain data, and where going back to it leads: our own choice.
use Rattle.std.specs.Prelude.{◌≡◌, ◌≤◌, Bool, Option, Some, [], length, take}
use Rattle.ecma_place.specs.Cursor.{Cursor, HasPlace, place}
use Rattle.ecma_place.specs.declared.place.BytePos.{BytePos}
use Rattle.ecma_syntax.specs.declared.context.Context.{Context}
use Rattle.ecma_state.specs.Disposition.{Errors, no_errors}
use Rattle.ecma_state.specs.Run.{at_place}
use Rattle.ecma_state.specs.Session.{LexerState}
use Rattle.ecma_state.specs.Slashes.{StandsSlash}
use Rattle.ecma_state.specs.State.{StateValue, last_slash}
use Rattle.ecma_state.specs.declared.settings.Settings.{Settings}
use Rattle.ecma_checkpoint.specs.declared.checkpoint.Counts.{Counts}

pub record CheckpointValue : Type 0 where
  pub at : BytePos
  pub context : Context
  pub state : StateValue
  pub reread : Option BytePos
  pub counts : Counts
  pub refused : Bool

-- how many errors and comments a lexer has
abbrev pub counts_of : LexerState → Counts
counts_of l = record { recorded = length l.errors.recorded; waiting = length l.errors.waiting; comments = length l.comments }

-- where a lexer is
abbrev pub checkpoint_of : LexerState → CheckpointValue
checkpoint_of l =
    record {
      at = record { 0 = place l.input };
      context = l.context;
      state = l.state;
      reread = l.reread;
      counts = counts_of l;
      refused = l.refused;
    }

-- the same of a place, where there is one
abbrev pub AreSlashes : Cursor → BytePos → Option BytePos → Type 0
AreSlashes input opened slash = (p : BytePos) → slash ≡ Some p → StandsSlash input opened p

-- a lexer may be at a place of a text: no template was opened behind it, and slashes stand where they have to
pub record ArePlaces (input : Cursor) (at opened : BytePos) (reread answered : Option BytePos) : Type 0 where
  pub has_place : HasPlace input at.0
  pub opened_before : opened.0 ≤ at.0
  pub slash_reread : AreSlashes input opened reread
  pub slash_answered : AreSlashes input opened answered

-- a checkpoint may be one of this text
abbrev pub Fits : CheckpointValue → Cursor → Type 0
Fits c input = ArePlaces input c.at c.state.opened c.reread (last_slash c.state.seen)

-- there are so many errors and comments, and perhaps more
pub record Within (few many : Counts) : Type 0 where
  pub recorded : few.recorded ≤ many.recorded
  pub waiting : few.waiting ≤ many.waiting
  pub comments : few.comments ≤ many.comments

-- a lexer of a text that starts at this place, which is in this text and has so many errors and comments, can go back to a
-- checkpoint
pub record Suits (c : CheckpointValue) (start : BytePos) (counts : Counts) (input : Cursor) : Type 0 where
  pub from : c.state.start ≡ start
  pub within : Within c.counts counts
  pub fits : Fits c input

abbrev pub GoesBack : CheckpointValue → LexerState → Type 0
GoesBack c l = Suits c l.state.start (counts_of l) l.input

-- the first errors of each list
abbrev pub cut_errors : Counts → Errors → Errors
cut_errors n e = record { recorded = take n.recorded e.recorded; waiting = take n.waiting e.waiting }

-- a lexer that goes back
abbrev pub rewound : CheckpointValue → LexerState → LexerState
rewound c l =
    record l {
      input = at_place c.at l.input;
      context = c.context;
      state = c.state;
      reread = c.reread;
      errors = cut_errors c.counts l.errors;
      comments = take c.counts.comments l.comments;
      refused = c.refused;
    }

-- a lexer that goes on from a checkpoint in a text, by these settings: with all that the checkpoint keeps, and with no errors and
-- no comments
abbrev pub resumed : Settings → CheckpointValue → Cursor → LexerState
resumed settings c input =
    record {
      settings = settings;
      input = at_place c.at input;
      context = c.context;
      state = c.state;
      reread = c.reread;
      errors = no_errors;
      comments = [];
      refused = c.refused;
    }
