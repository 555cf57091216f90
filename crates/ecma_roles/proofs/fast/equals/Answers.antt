use Rattle.ecma_roles.proofs.FastLemmas.{equals_takes}
use Rattle.ecma_roles.proofs.fast.equals.Goals as goal

pub returns-then-not-over_candidate : goal.returns-then-not-over_candidate
returns-then-not-over_candidate c = equals_takes c.args.state c.args.nest.now.nest c.args.had_line_break (cc (c.may_go_on.ensures, c.if-may_go_on.true)) (cc (c.top.ensures, c.over_candidate.ensures, c.if-not-over_candidate.true))
