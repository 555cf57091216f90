use Rattle.std.proofs.Common.{◌∙◌, arith, ap}
use Rattle.ecma_trees.proofs.TreeLemmas.{found-last, none-last, way-none}
use Rattle.ecma_trees.specs.Trees.{way}
use Rattle.ecma_trees.proofs.tree.Tree.last.Goals as goal

pub returns-then-number-eq0-clause-way : goal.returns-then-number-eq0-clause-way
returns-then-number-eq0-clause-way g c = ap (λ n. way n c.args.self.now) c.if-number-eq0.true ∙ way-none c.args.self.now

pub returns-in-Some-clause-way : goal.returns-in-Some-clause-way
returns-in-Some-clause-way g c =
    let other = c.if-number-eq0.false in
    let less = c.in-Some.ensures.lookup.3.0 in
    rw (c.before_in.ensures) (found-last c.self.inside.nodes.items c.args.self.now c.args.number _ c.in-Some.node.now c.self.view_is (omega (arith, other)) (rw (c.deref.ensures.value) at less) (rw (c.deref.ensures.value) at c.in-Some.ensures.lookup.3.1))

pub returns-in-None-clause-way : goal.returns-in-None-clause-way
returns-in-None-clause-way g c =
    let other = c.if-number-eq0.false in
    let past = rw (c.deref.ensures.value) at c.in-None.ensures.lookup.3 in
    none-last c.self.inside.nodes.items c.args.self.now c.args.number c.self.view_is (omega (arith, other, past))
