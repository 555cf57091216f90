use Rattle.ecma_roles.proofs.FastLemmas.{bang_takes}
use Rattle.ecma_roles.proofs.fast.bang.Goals as goal

pub returns-in-Operand : goal.returns-in-Operand
returns-in-Operand c = rw c.in-Operand.is (bang_takes c.args.nest.now.nest c.args.had_line_break)
