-- A text is read to its end by enough reads, where none reads again from a slash.
use Rattle.std.specs.Prelude.{ℕ, ◌+◌, ◌*◌, ◌<◌, ◌≤◌, ◌≡◌, true, List, [], Option, Some, None, fold, length, replicate, reverse, if◌then◌else◌}
use Rattle.ecma_place.specs.Text.{byte_len}
use Rattle.ecma_place.specs.Cursor.{Cursor, rest}
use Rattle.ecma_token.specs.View.{SpannedView}
use Rattle.ecma_token.specs.declared.kind.TokenKind.{TokenKind}
use Rattle.ecma_state.specs.Disposition.{Errors}
use Rattle.ecma_state.specs.Mode.{is_tpl_element}
use Rattle.ecma_state.specs.State.{previous}
use Rattle.ecma_comments.specs.declared.comments_buffer.BufferedComment.{BufferedComment}
use Rattle.ecma_state.specs.declared.step.Step.{Step}
use Rattle.ecma_state.specs.declared.step.Step.TheVariants.{Read}
use Rattle.ecma_state.specs.Session.{LexerState, Session, has_ended, kept_back}
use Rattle.ecma_state.specs.Run.{act_on, reading_of, state_behind}

abbrev pub reads : ℕ → List Step
reads n = replicate n Read

-- so many reads come to the end of any text, with room for a token without bytes behind each that has some
abbrev pub enough : Cursor → ℕ
enough input = 2 * byte_len (rest input) + 2

-- behind template text none without characters stands
abbrev pub empty_room : Option TokenKind → ℕ
empty_room previous = if is_tpl_element previous then 0 else 1

-- so many tokens are left at most: one without characters may stand before each that has some, and at the end
abbrev pub most_tokens : LexerState → ℕ
most_tokens l = 2 * length (rest l.input) + empty_room (previous l.state.seen)

-- where so many reads come to from a session
abbrev pub behind_reads : ℕ → Session → Session
behind_reads n s = fold act_on s (reads n)

abbrev pub read_out : Session → Session
read_out s = behind_reads (enough s.input) s

-- Enough reads answer the end, and more of them keep the same tokens, errors and comments.
pub record IsReadOut (s : Session) (n : ℕ) : Type 0 where
  pub ended : has_ended (behind_reads n s).past ≡ true
  pub nothing_left : rest (behind_reads n s).input ≡ []
  pub same_tokens : kept_back (behind_reads n s).past ≡ kept_back (read_out s).past
  pub same_errors : (behind_reads n s).errors ≡ (read_out s).errors
  pub same_comments : (behind_reads n s).comments ≡ (read_out s).comments

abbrev pub ReadsOut : Type 0
ReadsOut = (s : Session) (n : ℕ) → s.reread ≡ None → enough s.input ≤ n → IsReadOut s n

-- the tokens that a session comes to, in order, the errors and the comments: those of enough reads
unfoldable pub tokens_of : Session → List SpannedView
tokens_of s = reverse (kept_back (read_out s).past)

unfoldable pub errors_of : Session → Errors
errors_of s = (read_out s).errors

unfoldable pub comments_of : Session → List BufferedComment
comments_of s = (read_out s).comments

-- Laws

-- each token leaves fewer that may come, where none is read again
abbrev pub TokensRunOut : Type 0
TokensRunOut = (l : LexerState) (t : SpannedView) → l.reread ≡ None → (reading_of l).found ≡ Some t → most_tokens (state_behind l (reading_of l)) < most_tokens l
