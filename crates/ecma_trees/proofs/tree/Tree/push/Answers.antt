use Rattle.std.proofs.Common.{reverse, subst}
use Rattle.ecma_trees.specs.Trees.{Grows}
use Rattle.ecma_trees.proofs.TreeLemmas.{grows-one}
use Rattle.ecma_trees.proofs.tree.Tree.push.Goals as goal

pub returns-clause-grows : goal.returns-clause-grows
returns-clause-grows g c =
    subst (λ old. Grows old (reverse c.push.new.self.items)) c.self.view_is (grows-one c.self.inside.nodes.items c.push.new.self.items _ c.in_ok-push.ensures.items)
