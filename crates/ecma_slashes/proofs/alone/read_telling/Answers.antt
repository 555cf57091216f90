use Rattle.ecma_slashes.specs.Rereads as rules
use Rattle.ecma_slashes.proofs.RoleLemmas.{alone-names}
use Rattle.ecma_slashes.proofs.alone.read_telling.Goals as goal

pub returns-clause-steps : goal.returns-clause-steps
returns-clause-steps c = λ s at. c.read_naming.ensures.steps _ s at (alone-names (rules.rule_of c.args.slashes) _ s c.alone.ensures)

pub returns-clause-free : goal.returns-clause-free
returns-clause-free c = λ s at. c.read_naming.ensures.free _ s at (alone-names (rules.rule_of c.args.slashes) _ s c.alone.ensures)
