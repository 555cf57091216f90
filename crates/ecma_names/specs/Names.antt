-- The words that programs write for the sides and kinds of comments, and for the pieces of a text
use Rattle.std.specs.Prelude.{ℕ, List, codes}
use Rattle.ecma_span.specs.declared.comment.CommentKind.{CommentKind}
use Rattle.ecma_span.specs.declared.comment.CommentKind.TheVariants.{Line, Block}
use Rattle.ecma_comments.specs.declared.comments_buffer.BufferedCommentKind.{BufferedCommentKind}
use Rattle.ecma_comments.specs.declared.comments_buffer.BufferedCommentKind.TheVariants.{Leading, Trailing}
use Rattle.ecma_classes.specs.declared.piece.Class.{Class}
use Rattle.ecma_classes.specs.declared.piece.Class.TheVariants.{Token, Comment, Trivia}

abbrev pub side_name : BufferedCommentKind → List ℕ
side_name Leading = codes "leading"
side_name Trailing = codes "trailing"

abbrev pub comment_name : CommentKind → List ℕ
comment_name Line = codes "line"
comment_name Block = codes "block"

abbrev pub piece_name : Class → List ℕ
piece_name Token = codes "token"
piece_name Comment = codes "comment"
piece_name Trivia = codes "trivia"
