use Rattle.ecma_roles.proofs.FastLemmas.{paren_takes}
use Rattle.ecma_roles.proofs.fast.right_paren.Goals as goal

pub returns-clause-takes : goal.returns-clause-takes
returns-clause-takes c = rw c.pop.ensures.nest (paren_takes c.args.state c.args.nest.now.nest c.args.had_line_break c.in_ok-next.next (cc (c.may_close.ensures, c.if-not-may_close.false)) (cc (c.top-top.ensures, c.under.ensures, c.paren_state.ensures, c.in_ok-next.was)))
