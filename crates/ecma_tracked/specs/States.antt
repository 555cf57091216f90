-- What a tracked lexer is to its callers, and the sessions that it shows.
use Rattle.std.specs.Prelude.{◌≡◌, Bool, false, Option}
use Rattle.ecma_token.specs.View.{SpannedView}
use Rattle.ecma_state.specs.Session.{LexerState, LexerValue, Session, lexer_state, state_of}
use Rattle.ecma_slashes.specs.Known.{Known, leading}
use Rattle.ecma_slashes.specs.Rereads.{behind_by, by_role, found_by}
use Rattle.ecma_slashes.specs.Roles.{track_of}

pub record TrackedValue : Type 0 where
  pub lexer : LexerValue
  -- what the tokens so far lead to
  pub known : Known
  -- whether memory was refused
  pub refused : Bool

-- the same with the lexer as its callers see it
pub record TrackedState : Type 0 where
  pub lexer : LexerState
  pub known : Known
  pub refused : Bool

abbrev pub tracked_state : TrackedValue → TrackedState
tracked_state t = record { lexer = lexer_state t.lexer; known = t.known; refused = t.refused }

-- one that shows a session: so does its lexer, and the track is that of the tokens which the session keeps
abbrev pub tracked_of : Session → TrackedState
tracked_of s = record { lexer = state_of s; known = leading (track_of s); refused = false }

-- From a session on this was found, a token or the end, by the steps by which roles have the next token read, and it shows
-- where they lead.
pub record ReadsOn (s : Session) (found : Option SpannedView) (t : TrackedState) : Type 0 where
  pub finds : found ≡ found_by by_role s
  pub shows : t ≡ tracked_of (behind_by by_role s)
