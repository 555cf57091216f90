use Rattle.std.proofs.Common.{take}
use Rattle.std.specs.List.{All}
use Rattle.ecma_comments.specs.SharedComments.{IsBorrowed}
use Rattle.ecma_comments.proofs.shared_comments.all_borrowed.Given as goal

abbrev pub invariant-comments : goal.invariant-comments
invariant-comments l = All IsBorrowed (take l.comment-index l.comments)
