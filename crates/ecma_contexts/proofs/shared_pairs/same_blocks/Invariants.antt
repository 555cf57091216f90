use Rattle.std.proofs.Common.{◌≡◌, ◌<◌, length, take, vec_capacity}
use Rattle.ecma_contexts.specs.SharedPairs.{contents}
use Rattle.ecma_contexts.proofs.shared_pairs.same_blocks.Given as goal

abbrev pub invariant-every : goal.invariant-every
invariant-every l =
    (contents l.same.items ≡ contents (take l.block-index l.blocks))
    × (length l.same.items ≡ l.block-index) × (length l.blocks < vec_capacity l.same)
