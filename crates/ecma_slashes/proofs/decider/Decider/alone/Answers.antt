use Rattle.ecma_slashes.specs.Rereads as rules
use Rattle.ecma_slashes.proofs.RoleLemmas.{alone-decides}
use Rattle.ecma_slashes.proofs.decider.Decider.alone.Goals as goal

pub returns-clause-decides : goal.returns-clause-decides
returns-clause-decides c = λ s. alone-decides (rules.rule_of c.args.slashes) s _ c.alone.ensures
