use Rattle.ecma_roles.proofs.FastLemmas.{operator_takes}
use Rattle.ecma_roles.proofs.fast.operator.Goals as goal

pub returns-then-not-over_candidate : goal.returns-then-not-over_candidate
returns-then-not-over_candidate c = operator_takes c.args.state c.args.nest.now.nest c.args.had_line_break _ (cc (c.is_complete.ensures, c.if-is_complete.true)) (cc (c.is_operator.ensures, c.if-is_operator.true)) (cc (c.top.ensures, c.over_candidate.ensures, c.if-not-over_candidate.true))
