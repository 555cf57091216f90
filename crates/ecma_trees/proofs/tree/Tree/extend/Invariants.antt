-- The way that is reached, with the values that are left behind it, is the way that is sought.
use Rattle.std.proofs.Common.{reverse}
use Rattle.ecma_trees.proofs.TreeLemmas.{IsExtending}
use Rattle.ecma_trees.proofs.tree.Tree.extend.Given as goal

abbrev pub invariant-values : goal.invariant-values
invariant-values g l = IsExtending l.fn.self l.fn.before (reverse l.fn.values.items) l.self l.number l.value-iterator.rest.items
