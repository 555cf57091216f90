use Rattle.std.proofs.Common.{sym, ◌∙◌}
use Rattle.ecma_punctuator.proofs.AloneLemmas.{lone-found, past-ascii}
use Rattle.ecma_punctuator.proofs.punctuator.lone.Goals as goal

pub returns-then-not-is_ascii-clause-none : goal.returns-then-not-is_ascii-clause-none
returns-then-not-is_ascii-clause-none c = past-ascii c.args.first (sym c.is_ascii.ensures ∙ c.if-not-is_ascii.true)

pub returns-then-is_lone-clause-some : goal.returns-then-is_lone-clause-some
returns-then-is_lone-clause-some c = lone-found c.args.first c.alone_kind.result (sym c.is_lone.ensures ∙ c.if-is_lone.true) c.alone_kind.ensures.spelled
