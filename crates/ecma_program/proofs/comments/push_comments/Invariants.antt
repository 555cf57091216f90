-- What was added is the lines of the first comments.
use Rattle.std.proofs.Common.{◌≡◌, ◌++◌, take}
use Rattle.ecma_program.specs.CommentLines.{comment_lines}
use Rattle.ecma_program.proofs.comments.push_comments.Given as goal

abbrev pub invariant-loop-comment : goal.invariant-loop-comment
invariant-loop-comment l = l.out.items ≡ l.initial.out.items ++ comment_lines (take l.comment-index l.comments)
