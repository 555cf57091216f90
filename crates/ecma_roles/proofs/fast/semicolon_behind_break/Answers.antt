use Rattle.ecma_roles.proofs.FastLemmas.{break_ends}
use Rattle.ecma_roles.proofs.fast.semicolon_behind_break.Goals as goal

pub returns-in-Break : goal.returns-in-Break
returns-in-Break c = rw c.in-Break.is (break_ends c.args.nest.now.nest c.args.had_line_break (cc (c.top.ensures, c.holds_statements.ensures, c.if-holds_statements.true)))
