-- Which token each comment of a read belongs to, and on which side of it the comment stands: our own choice.
use Rattle.std.specs.Prelude.{◌==◌, Bool, not, List, ◌++◌, map, filter, Option, Some, None, if◌then◌else◌}
use Rattle.ecma_span.specs.declared.comment.Comment.{Comment}
use Rattle.ecma_span.specs.declared.place.BytePos.{BytePos}
use Rattle.ecma_comments.specs.declared.attachment.Around.{Around}
use Rattle.ecma_comments.specs.declared.comments_buffer.BufferedComment.{BufferedComment}
use Rattle.ecma_comments.specs.declared.comments_buffer.BufferedCommentKind.{BufferedCommentKind}
use Rattle.ecma_comments.specs.declared.comments_buffer.BufferedCommentKind.TheVariants.{Leading, Trailing}

abbrev pub attached : BufferedCommentKind → BytePos → Comment → BufferedComment
attached kind pos comment = record { kind = kind; pos = pos; comment = comment }

-- at the end a comment trails the token before, or stands alone where there is none, so that it leads the start
abbrev pub side_at_end : Around → BufferedCommentKind
side_at_end around = if around.end.0 == around.start.0 then Leading else Trailing

abbrev pub waiting_for : Around → Option BytePos → Comment → BufferedComment
waiting_for around (Some next) comment = attached Leading next comment
waiting_for around None comment = attached (side_at_end around) around.end comment

-- a comment for the next token
abbrev pub for_next : Around → Comment → BufferedComment
for_next around comment = waiting_for around around.next comment

-- Comments are given with whether each is for the next token

abbrev pub of_previous : Around → List (Comment × Bool) → List BufferedComment
of_previous around comments = map (λ c. attached Trailing around.end c.0) (filter (λ c. not c.1) comments)

abbrev pub of_next : Around → List (Comment × Bool) → List BufferedComment
of_next around comments = map (λ c. for_next around c.0) (filter (λ c. c.1) comments)

-- the comments of one read: those of the token before it come first
abbrev pub attachment : Around → List (Comment × Bool) → List BufferedComment
attachment around comments = of_previous around comments ++ of_next around comments
