use Rattle.std.proofs.Common.{◌≡◌, ◌++◌, []}
use Rattle.ecma_comments.specs.Attachment.{of_next, of_previous}
use Rattle.ecma_comments.specs.Buffers.{Begins}
use Rattle.ecma_comments.proofs.comments_buffer.CommentsBuffer.attach_each.Given as goal

-- what was taken in so far, with what is left, is what is to be taken in
abbrev pub invariant-found : goal.invariant-found
invariant-found l =
    (l.self.comments ++ of_previous l.around l.comment-iterator.rest.items ≡ l.fn.self.comments ++ of_previous l.around l.fn.found.items)
    × (l.self.pending_leading ++ of_next l.around l.comment-iterator.rest.items ≡ l.fn.self.pending_leading ++ of_next l.around l.fn.found.items)
    × (l.fn.found.items ≡ [] → l.comment-iterator.rest.items ≡ [])
    × Begins l.fn.self.comments l.self.comments
