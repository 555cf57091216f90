-- What was found, turned, and the way that is left in the nodes that are left, are the way that is sought.
use Rattle.std.proofs.Common.{◌≡◌, ◌++◌, length, reverse}
use Rattle.ecma_trees.specs.Trees.{way}
use Rattle.ecma_trees.proofs.tree.Tree.into_vec.Given as goal

abbrev pub invariant-nodes : goal.invariant-nodes
invariant-nodes g l = l.values.items ++ way l.at (reverse l.nodes.items) ≡ way l.fn.number l.fn.self

abbrev pub decreases-nodes : goal.decreases-nodes
decreases-nodes g l = length l.nodes.items
