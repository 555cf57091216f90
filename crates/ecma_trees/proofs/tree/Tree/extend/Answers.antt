use Rattle.std.proofs.Common.{reverse}
use Rattle.ecma_trees.proofs.TreeLemmas.{extends-further}
use Rattle.ecma_trees.proofs.tree.Tree.extend.Goals as goal

pub values-preserved : goal.values-preserved
values-preserved g c =
    extends-further c.args.self.now c.values.self c.push.new.self c.args.before c.values.number c.in_ok-number.number (reverse c.args.values.items) _ c.next.new.self.rest.items c.in-Some.value
    c.values.invariant c.in-Some.ensures.steps.0 c.in_ok-number.ensures.way c.in_ok-number.ensures.within c.in_ok-number.ensures.grows
