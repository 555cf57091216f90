-- The rows so far are those of the first comments.
use Rattle.std.proofs.Common.{◌≡◌, map, take}
use Rattle.ecma_rows.specs.Rows.{comment_row}
use Rattle.ecma_rows.specs.Told.{written}
use Rattle.ecma_rows.proofs.comments.write_rows.Given as goal

abbrev pub invariant-loop-comment : goal.invariant-loop-comment
invariant-loop-comment l = (l.count ≡ l.comment-index) × (l.out ≡ written (map comment_row (take l.comment-index l.comments)) l.initial.out)
