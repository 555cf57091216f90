use Rattle.ecma_roles.proofs.FastLemmas.{arrow_takes}
use Rattle.ecma_roles.proofs.fast.arrow.Goals as goal

pub returns-clause-takes : goal.returns-clause-takes
returns-clause-takes c = rw c.begin_arrow.ensures.nest (arrow_takes c.args.state c.args.nest.now.nest c.args.had_line_break (cc (c.is_complete.ensures, c.if-not-is_complete.false)))
