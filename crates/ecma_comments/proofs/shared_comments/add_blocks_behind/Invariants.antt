use Rattle.std.proofs.Common.{◌≡◌, ◌-◌, ◌++◌, drop, length, take}
use Rattle.ecma_comments.specs.SharedComments.{of_blocks}
use Rattle.ecma_comments.proofs.shared_comments.add_blocks_behind.Given as goal

abbrev pub invariant-every : goal.invariant-every
invariant-every l =
    (l.to.items ≡ l.fn.to.items ++ drop l.fn.skip (of_blocks (take l.block-index l.blocks)))
    × (l.left ≡ l.fn.skip - length (of_blocks (take l.block-index l.blocks)))
