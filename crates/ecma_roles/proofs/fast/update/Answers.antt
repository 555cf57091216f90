use Rattle.ecma_roles.proofs.FastLemmas.{update_takes}
use Rattle.ecma_roles.proofs.fast.update.Goals as goal

pub returns-then-not-over_candidate : goal.returns-then-not-over_candidate
returns-then-not-over_candidate c = rw c.if-not-had_line_break.true (update_takes c.args.state c.args.nest.now.nest (cc (c.is_complete.ensures, c.if-is_complete.true)) (cc (c.top.ensures, c.over_candidate.ensures, c.if-not-over_candidate.true)))
