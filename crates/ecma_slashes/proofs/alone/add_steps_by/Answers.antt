use Rattle.std.proofs.Common.{◌∙◌, ap}
use Rattle.ecma_slashes.specs.Rereads.{is_in_order}
use Rattle.ecma_slashes.proofs.alone.add_steps_by.Goals as goal

pub add_steps_deciding-requires-clause-in_order : goal.add_steps_deciding-requires-clause-in_order
add_steps_deciding-requires-clause-in_order c = ap is_in_order c.alone-decider.ensures.rule ∙ c.requires.in_order
