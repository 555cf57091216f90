use Rattle.std.proofs.Common.{vec_capacity}
use Rattle.ecma_comments.specs.SharedComments.{of_blocks}
use Rattle.ecma_comments.proofs.SharedCommentsLemmas.{IsAdding}
use Rattle.ecma_comments.proofs.shared_comments.add_blocks.Given as goal

abbrev pub invariant-every : goal.invariant-every
invariant-every l =
    IsAdding l.fn.to.items (of_blocks l.fn.blocks.items)
    l.to.items (of_blocks l.block-iterator.rest.items) (vec_capacity l.to)
