-- What steps have come to, and what is read off the answers that were given.
use Rattle.std.specs.Prelude.{Bool, true, false, ◌&&◌, List, [], ◌∷◌, drop, map, reverse, Option, Some, None, option_map}
use Rattle.ecma_place.specs.Cursor.{Cursor}
use Rattle.ecma_token.specs.Kinds.{kind_of}
use Rattle.ecma_token.specs.View.{SpannedView}
use Rattle.ecma_place.specs.declared.place.BytePos.{BytePos}
use Rattle.ecma_syntax.specs.declared.context.Context.{Context}
use Rattle.ecma_state.specs.Disposition.{Errors}
use Rattle.ecma_contexts.specs.Contexts.{Contexts}
use Rattle.ecma_state.specs.Errors.{ErrorsValue, errors_view}
use Rattle.ecma_state.specs.State.{StateValue, is_shebang}
use Rattle.ecma_comments.specs.declared.comments_buffer.BufferedComment.{BufferedComment}
use Rattle.ecma_state.specs.declared.kept.Kept.{Kept}
use Rattle.ecma_state.specs.declared.kept.Seen.{Seen}
use Rattle.ecma_state.specs.declared.settings.Settings.{Settings}

-- what a read answered: a token, a token that was read again from a slash, or the end with the flag before it
pub data Given : Type 0 where
  Next : SpannedView → Given
  Again : SpannedView → Given
  AtEnd : Bool → Given

-- the newest stands first
abbrev pub Past : Type 0
Past = List Given

abbrev pub kept_of : SpannedView → Kept
kept_of t = record { kind = kind_of t.token; span = t.span; flag = t.had_line_break }

abbrev pub kept_in : Option SpannedView → Option Kept
kept_in found = option_map kept_of found

-- What is read off the past

-- no token but a shebang was given
abbrev pub is_first : Past → Bool
is_first [] = true
is_first (Next t ∷ past) = is_shebang (kind_of t.token) && is_first past
is_first (Again t ∷ past) = is_shebang (kind_of t.token) && is_first past
is_first (AtEnd flag ∷ past) = is_first past

-- the token that was given last
abbrev pub last_kept : Past → Option Kept
last_kept [] = None
last_kept (Next t ∷ past) = Some (kept_of t)
last_kept (Again t ∷ past) = Some (kept_of t)
last_kept (AtEnd flag ∷ past) = last_kept past

-- the flag of the last answer
abbrev pub last_flag : Past → Bool
last_flag [] = false
last_flag (Next t ∷ past) = t.had_line_break
last_flag (Again t ∷ past) = t.had_line_break
last_flag (AtEnd flag ∷ past) = flag

abbrev pub has_ended : Past → Bool
has_ended (AtEnd flag ∷ past) = true
has_ended _ = false

-- the tokens that are kept, the newest first: one that was read again stands in the place of the last
abbrev pub kept_back : Past → List SpannedView
kept_back [] = []
kept_back (Next t ∷ past) = t ∷ kept_back past
kept_back (Again t ∷ past) = t ∷ drop 1 (kept_back past)
kept_back (AtEnd flag ∷ past) = kept_back past

-- What steps have come to
pub record Session : Type 0 where
  pub settings : Settings
  -- the place where the lexer began
  pub start : BytePos
  pub input : Cursor
  pub context : Context
  -- the innermost first
  pub contexts : Contexts
  -- whether an expression may begin
  pub expr_allowed : Bool
  -- where the back quote stands that opened a template last; the start place where none did
  pub opened : BytePos
  -- the slash that each read begins at, while there is one
  pub reread : Option BytePos
  pub errors : Errors
  -- those that have their token, in order
  pub comments : List BufferedComment
  pub past : Past

-- the tokens that are kept, in order
abbrev pub kept_tokens : Session → List Kept
kept_tokens s = reverse (map kept_of (kept_back s.past))

-- What a lexer keeps of its answers

abbrev pub seen_of : Past → Seen
seen_of past = record { first = is_first past; last = last_kept past; flag = last_flag past; ended = has_ended past }

-- What a lexer is to its callers
pub record LexerState : Type 0 where
  pub settings : Settings
  pub input : Cursor
  pub context : Context
  pub state : StateValue
  -- the slash that the next read begins at, where it reads again
  pub reread : Option BytePos
  pub errors : Errors
  pub comments : List BufferedComment
  -- whether memory was refused
  pub refused : Bool

-- what the next read of a session goes by
abbrev pub state_value : Session → StateValue
state_value s =
    record { contexts = s.contexts; expr_allowed = s.expr_allowed; start = s.start; opened = s.opened; seen = seen_of s.past }

-- a lexer that has come to a session
abbrev pub state_of : Session → LexerState
state_of s =
    record {
      settings = s.settings;
      input = s.input;
      context = s.context;
      state = state_value s;
      reread = s.reread;
      errors = s.errors;
      comments = s.comments;
      refused = false;
    }

-- the same with the errors as they are kept
pub record LexerValue : Type 0 where
  pub settings : Settings
  pub input : Cursor
  pub context : Context
  pub state : StateValue
  pub reread : Option BytePos
  pub errors : ErrorsValue
  pub comments : List BufferedComment
  pub refused : Bool

-- how a lexer is seen
abbrev pub lexer_state : LexerValue → LexerState
lexer_state l =
    record {
      settings = l.settings;
      input = l.input;
      context = l.context;
      state = l.state;
      reread = l.reread;
      errors = errors_view l.errors;
      comments = l.comments;
      refused = l.refused;
    }

-- the same with other contexts
abbrev pub value_with_contexts : LexerValue → Contexts → LexerValue
value_with_contexts l contexts = record l { state = record l.state { contexts = contexts } }
