use Rattle.ecma_roles.proofs.FastLemmas.{dot_takes}
use Rattle.ecma_roles.proofs.fast.dot.Goals as goal

pub returns-then-is_complete : goal.returns-then-is_complete
returns-then-is_complete c = dot_takes c.args.state c.args.nest.now.nest c.args.had_line_break (cc (c.is_complete.ensures, c.if-is_complete.true))
