use Rattle.ecma_roles.proofs.FastLemmas.{colon_behind_key, colon_takes}
use Rattle.ecma_roles.proofs.fast.colon.Goals as goal

pub returns-in-Key-clause-takes : goal.returns-in-Key-clause-takes
returns-in-Key-clause-takes c = rw c.in-Key.is (colon_behind_key c.args.nest.now.nest c.args.had_line_break (cc (c.has_no_method.ensures, c.if-has_no_method.true)))

pub returns-in_ok-next-in-After-clause-takes : goal.returns-in_ok-next-in-After-clause-takes
returns-in_ok-next-in-After-clause-takes c = rw c.pop.ensures.nest (rw c.in-After.is (colon_takes c.args.nest.now.nest c.args.had_line_break c.in_ok-next-in-After.next (cc (c.top.ensures, c.colon_state.ensures, c.in_ok-next-in-After.was))))
