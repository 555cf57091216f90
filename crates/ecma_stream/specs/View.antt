-- How a lexer's fields give what it keeps, and what always holds of them.
use Rattle.std.specs.Prelude.{◌≡◌, ◌≤◌, [], Some, length, take}
use Rattle.ecma_place.specs.Cursor.{place}
use Rattle.ecma_place.specs.declared.place.BytePos.{BytePos}
use Rattle.ecma_stream.specs.declared.lexer.Lexer.TheInside.{Inside}
use Rattle.ecma_state.specs.Disposition.{no_errors}
use Rattle.ecma_state.specs.Errors.{Begins}
use Rattle.ecma_state.specs.Session.{LexerState, LexerValue}
use Rattle.ecma_checkpoint.specs.declared.checkpoint.Counts.{Counts}
use Rattle.ecma_state.specs.Slashes.{StandsSlash}
use Rattle.ecma_state.specs.State.{last_slash}

abbrev pub lexer_view : Inside → LexerValue
lexer_view a =
    record {
      settings = a.settings;
      input = a.input;
      context = a.context;
      state = a.state;
      reread = a.reread;
      errors = a.errors;
      comments = a.comments.comments;
      refused = a.refused;
    }

-- No template was opened behind the cursor; between two reads no comment waits for its token; and slashes stand where one
-- was answered last and where one is read again.
pub record IsLexer (a : Inside) : Type 0 where
  pub opened : a.state.opened.0 ≤ place a.input
  pub none_pending : a.comments.pending_leading ≡ []
  pub answered : (p : BytePos) → last_slash a.state.seen ≡ Some p → StandsSlash a.input a.state.opened p
  pub reread : (p : BytePos) → a.reread ≡ Some p → StandsSlash a.input a.state.opened p

-- errors and comments were added, and nothing else is changed
pub record HasMore (old now : LexerValue) : Type 0 where
  pub same : record now { errors = old.errors; comments = old.comments } ≡ old
  pub errors : Begins old.errors now.errors
  pub comments : take (length old.comments) now.comments ≡ old.comments

-- what the caller gave and set, and where the text starts, is as it was
pub record IsGivenAs (old now : LexerValue) : Type 0 where
  pub settings : now.settings ≡ old.settings
  pub context : now.context ≡ old.context
  pub start : now.state.start ≡ old.state.start

-- a lexer that keeps the first errors and comments, as many as this
abbrev pub cut_to : Counts → LexerValue → LexerValue
cut_to n l =
    record l {
      errors = record { recorded = take n.recorded l.errors.recorded; waiting = take n.waiting l.errors.waiting };
      comments = take n.comments l.comments;
    }

-- a lexer that keeps no errors and no comments
abbrev pub drained : LexerState → LexerState
drained l = record l { errors = no_errors; comments = [] }
