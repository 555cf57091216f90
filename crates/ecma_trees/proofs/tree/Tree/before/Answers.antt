use Rattle.std.proofs.Common.{◌∙◌, ap, sym, drop}
use Rattle.ecma_trees.proofs.TreeLemmas.{way-none}
use Rattle.ecma_trees.proofs.tree.Tree.before.Goals as goal

pub returns-in-None : goal.returns-in-None
returns-in-None g c = way-none c.args.self.now ∙ ap (drop 1) (sym c.in-None.ensures.way)
