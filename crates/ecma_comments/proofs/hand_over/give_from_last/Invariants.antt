use Rattle.std.proofs.Common.{reverse, vec_len}
use Rattle.ecma_comments.specs.HandOver.{HandsFirst}
use Rattle.ecma_comments.proofs.hand_over.give_from_last.Given as goal

-- the list stands the other way round: its last comment is the next one
abbrev pub invariant-comments : goal.invariant-comments
invariant-comments g l = HandsFirst (g.C.Comments.added l.fn.to) (g.C.Comments.added l.to) (reverse l.fn.comments.items) (reverse l.comments.items)

abbrev pub decreases-comments : goal.decreases-comments
decreases-comments g l = vec_len l.comments
