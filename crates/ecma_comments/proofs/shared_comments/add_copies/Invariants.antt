use Rattle.std.proofs.Common.{◌≡◌, ◌++◌, take, vec_capacity}
use Rattle.ecma_comments.proofs.shared_comments.add_copies.Given as goal

abbrev pub invariant-comments : goal.invariant-comments
invariant-comments l = (l.to.items ≡ l.fn.to.items ++ take l.comment-index l.comments) × (vec_capacity l.to ≡ vec_capacity l.fn.to)
