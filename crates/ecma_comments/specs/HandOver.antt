-- What a store is handed of the comments that have their token.
use Rattle.std.specs.Prelude.{◌≡◌, ◌<◌, List, ◌++◌, map, length}
use Rattle.ecma_span.specs.Comment.{Added, Side}
use Rattle.ecma_span.specs.Comment as place
use Rattle.ecma_comments.specs.Buffers.{CommentsValue}
use Rattle.ecma_comments.specs.declared.comments_buffer.BufferedComment.{BufferedComment}
use Rattle.ecma_comments.specs.declared.comments_buffer.BufferedCommentKind.{BufferedCommentKind}
use Rattle.ecma_comments.specs.declared.comments_buffer.BufferedCommentKind.TheVariants.{Leading, Trailing}

abbrev pub side_of : BufferedCommentKind → Side
side_of Leading = place.Leading
side_of Trailing = place.Trailing

-- what a store is given with a comment
abbrev pub added_of : BufferedComment → Added
added_of c = record { side = side_of c.kind; pos = c.pos; comment = c.comment }

-- a store was handed the first of these comments, in order, and those behind them are kept
pub record HandsFirst (given_old given_new : List Added) (comments kept : List BufferedComment) : Type 0 where
  pub handed : List BufferedComment
  pub order : comments ≡ handed ++ kept
  pub given : given_new ≡ given_old ++ map added_of handed

-- a store refused a comment: those before it were handed over, and it and those behind it are kept
pub record StopsEarly (given_old given_new : List Added) (old new : CommentsValue) : Type 0 where
  pub first : HandsFirst given_old given_new old.comments new.comments
  pub refused : 0 < length new.comments
  pub waiting : new.pending_leading ≡ old.pending_leading
