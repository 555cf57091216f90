use Rattle.ecma_roles.proofs.FastLemmas.{group_takes}
use Rattle.ecma_roles.proofs.fast.close_group.Goals as goal

pub returns-clause-takes : goal.returns-clause-takes
returns-clause-takes c = rw c.pop.ensures.nest (group_takes c.args.state c.args.nest.now.nest c.args.had_line_break (cc (c.is_complete.ensures, c.if-not-is_complete.false)) c.requires (cc (c.under.ensures, c.decorates.ensures, c.if-decorates.false)))
