-- Rows of tokens and comments. Their form is our own choice.
use Rattle.std.specs.Prelude.{◌≡◌, ℕ, ◌+◌, ◌-◌, ◌==◌, Bool, true, false, not, List, map, length, if◌then◌else◌}
use Rattle.ecma_span.specs.declared.place.Span.{Span}
use Rattle.ecma_span.specs.declared.comment.CommentKind.{CommentKind}
use Rattle.ecma_span.specs.declared.comment.CommentKind.TheVariants.{Line, Block}
use Rattle.ecma_span.specs.declared.comment.Comment.{Comment}
use Rattle.ecma_syntax.specs.Word.{word_text}
use Rattle.ecma_syntax.specs.declared.word.Word.{Word as Word'}
use Rattle.ecma_token.specs.Kinds.{kind_of}
use Rattle.ecma_token.specs.View.{SpannedView, TokenView, plain_token, refused_template, error_token}
use Rattle.ecma_token.specs.declared.token.Token.{Token, Word, Template', Str, Regex, Num, BigInt, JSXText, Ok', Err'}
use Rattle.ecma_state.specs.Session.{Session}
use Rattle.ecma_reader.specs.Rereads.{SlashRule}
use Rattle.ecma_reader.specs.Readers.{HasRead, end_by, tokens_kept}
use Rattle.ecma_reader.specs.declared.reader.Reader.{Reader}
use Rattle.ecma_comments.specs.declared.comments_buffer.BufferedComment.{BufferedComment}
use Rattle.ecma_comments.specs.declared.comments_buffer.BufferedCommentKind.{BufferedCommentKind}
use Rattle.ecma_comments.specs.declared.comments_buffer.BufferedCommentKind.TheVariants.{Leading, Trailing}
use Rattle.ecma_kinds.specs.KindNumbers.{kind_number}
use Rattle.ecma_rows.specs.Told.{written}
use Rattle.ecma_rows.specs.declared.tokens.TokenRow.{TokenRow}
use Rattle.ecma_rows.specs.declared.comments.CommentRow.{CommentRow}

-- Tokens

-- The value of a token is not its spelling (for a string, a template, a number: what stands between its signs). A word is
-- spelled otherwise by escapes alone, which are longer than what they stand for; a refused template text has no value.
abbrev pub is_word_respelled : Word' → Span → Bool
is_word_respelled word span = not (length (word_text word) == (span.hi.0 - span.lo.0))

abbrev pub is_respelled : Token → Span → Bool
is_respelled (Word word) span = is_word_respelled word span
is_respelled (Template' raw (Ok' cooked)) span = not cooked.is_borrowed
is_respelled (Template' raw (Err' p kind at)) span = true
is_respelled (Str value raw) span = not value.is_borrowed
is_respelled (Regex body flags) span = not flags.is_borrowed
is_respelled (Num raw radix digits whole) span = not digits.is_borrowed
is_respelled (BigInt raw radix digits) span = not digits.is_borrowed
is_respelled (JSXText value raw) span = not value.is_borrowed
is_respelled _ span = false

-- the same, of a token that is seen so
abbrev pub is_view_respelled : TokenView → Span → Bool
is_view_respelled (plain_token token) span = is_respelled token span
is_view_respelled (refused_template raw kind at) span = true
is_view_respelled (error_token kind at) span = false

-- 1 where a line terminator stands before the token, 2 where its value is not its spelling
abbrev pub token_flags : Bool → Bool → ℕ
token_flags flag respelled = (if flag then 1 else 0) + (if respelled then 2 else 0)

abbrev pub token_row : SpannedView → TokenRow
token_row t =
    record {
      lo = t.span.lo.0;
      hi = t.span.hi.0;
      kind = kind_number (kind_of t.token);
      flags = token_flags t.had_line_break (is_view_respelled t.token t.span);
    }

-- the tokens that are kept, in order
abbrev pub token_rows : Session → List TokenRow
token_rows s = map token_row (tokens_kept s)

-- All was read, rows were written to room that held others before, and so many tokens were counted.
pub record HasWritten (rule : SlashRule) (begin : Session) (before room : List TokenRow) (count : ℕ) (reader : Reader) : Type 0 where
  pub tokens : count ≡ length (token_rows (end_by rule begin))
  pub rows : room ≡ written (token_rows (end_by rule begin)) before
  pub read : HasRead rule begin reader

-- Comments

-- 1 for a block comment
abbrev pub form_flag : CommentKind → ℕ
form_flag Line = 0
form_flag Block = 1

-- 2 for a comment behind its token
abbrev pub side_flag : BufferedCommentKind → ℕ
side_flag Leading = 0
side_flag Trailing = 2

abbrev pub comment_flags : BufferedComment → ℕ
comment_flags c = form_flag c.comment.kind + side_flag c.kind

-- how many bytes stand behind what a comment says
abbrev pub closing : CommentKind → ℕ
closing Line = 0
closing Block = 2

abbrev pub text_hi : Comment → ℕ
text_hi c = c.span.hi.0 - closing c.kind

abbrev pub comment_row : BufferedComment → CommentRow
comment_row c =
    record {
      pos = c.pos.0;
      lo = c.comment.span.lo.0;
      hi = c.comment.span.hi.0;
      text_lo = text_hi c.comment - length c.comment.text.bytes;
      text_hi = text_hi c.comment;
      flags = comment_flags c;
    }

-- the comments, in the order in which the lexer hands them over
abbrev pub comment_rows : Session → List CommentRow
comment_rows s = map comment_row s.comments
