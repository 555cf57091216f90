use Rattle.ecma_replay.proofs.WayLemmas.{delivers}
use Rattle.ecma_replay.proofs.trees.Trees.deliver.Goals as goal

pub returns : goal.returns
returns c =
    delivers c.args.self.now c.args.ways c.extend.new.self c.in_ok-to.field-0 c.in_ok-waiting.waiting.items c.in_ok-waiting.ensures c.in_ok-to.ensures.way c.in_ok-to.ensures.within c.in_ok-to.ensures.grows
