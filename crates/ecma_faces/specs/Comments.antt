-- Rows of comments.
use Rattle.std.specs.Prelude.{ℕ, List, flat_map, true}
use Rattle.ecma_comments.specs.declared.comments_buffer.BufferedComment.{BufferedComment}
use Rattle.ecma_names.specs.Names.{comment_name, side_name}
use Rattle.ecma_print.specs.Rows.{beside_token}
use Rattle.ecma_report.specs.Rows.{Look, row_of}
use Rattle.ecma_report.specs.Runs.{read_to}
use Rattle.ecma_command.specs.declared.words.Named.{Named}

-- its form, where it is, on which side of the token at which place, and what it says
abbrev pub comment_row : Look → List ℕ → List ℕ → BufferedComment → List ℕ
comment_row l file text b = row_of l file text (comment_name b.comment.kind) b.comment.span (beside_token (side_name b.kind) b.pos) b.comment.text.bytes

abbrev pub comment_rows : Look → List ℕ → List ℕ → List BufferedComment → List ℕ
comment_rows l file text comments = flat_map (comment_row l file text) comments

-- the comments of a text, read as it is asked for
abbrev pub comments_by : Named → Look → List ℕ → List BufferedComment
comments_by named l text = (read_to true named l text).comments
