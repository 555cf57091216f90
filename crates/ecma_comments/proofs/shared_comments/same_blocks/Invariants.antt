use Rattle.std.proofs.Common.{◌≡◌, ◌≤◌, length, take, vec_capacity}
use Rattle.ecma_comments.specs.SharedComments.{of_blocks}
use Rattle.ecma_comments.proofs.shared_comments.same_blocks.Given as goal

abbrev pub invariant-every : goal.invariant-every
invariant-every l =
    (of_blocks l.same.items ≡ of_blocks (take l.block-index l.blocks))
    × (length l.same.items ≡ l.block-index) × (length l.blocks ≤ vec_capacity l.same)
