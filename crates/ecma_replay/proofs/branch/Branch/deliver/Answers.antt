use Rattle.ecma_replay.proofs.WayLemmas.{further}
use Rattle.ecma_replay.proofs.branch.Branch.deliver.Goals as goal

pub returns-clause-grows : goal.returns-clause-grows
returns-clause-grows c = further c.args.trees.now c.settle.new.trees c.deliver.new.self c.in_ok-settle.ensures.grows c.in_ok-self-inside.ensures.grows
