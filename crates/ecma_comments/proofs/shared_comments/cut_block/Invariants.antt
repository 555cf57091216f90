use Rattle.std.proofs.Common.{◌≡◌, ◌<◌, length, take, vec_len}
use Rattle.ecma_comments.specs.SharedComments.{of_blocks}
use Rattle.ecma_comments.proofs.shared_comments.cut_block.Given as goal

-- what was taken off stands behind the comments that are left
abbrev pub invariant-blocks-2 : goal.invariant-blocks-2
invariant-blocks-2 l =
    (l.before ≡ length (of_blocks l.blocks.items))
    × (l.len < l.before)
    × (take l.before (of_blocks l.fn.blocks.items) ≡ of_blocks l.blocks.items)

abbrev pub decreases-blocks-2 : goal.decreases-blocks-2
decreases-blocks-2 l = vec_len l.blocks
