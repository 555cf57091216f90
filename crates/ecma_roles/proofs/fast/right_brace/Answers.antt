use Rattle.ecma_roles.proofs.FastLemmas.{brace_takes}
use Rattle.ecma_roles.proofs.fast.right_brace.Goals as goal

pub returns-clause-takes : goal.returns-clause-takes
returns-clause-takes c = rw c.pop.ensures.nest (brace_takes c.args.state c.args.nest.now.nest c.args.had_line_break c.in_ok-next.next (cc (c.may_end.ensures, c.if-not-may_end.false)) (cc (c.has_no_method.ensures, c.if-not-has_no_method.false)) (cc (c.top.ensures, c.brace_state.ensures, c.in_ok-next.was)))
