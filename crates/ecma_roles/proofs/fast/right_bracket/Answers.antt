use Rattle.ecma_roles.proofs.FastLemmas.{bracket_takes}
use Rattle.ecma_roles.proofs.fast.right_bracket.Goals as goal

pub returns-in-Some-Bracket-clause-takes : goal.returns-in-Some-Bracket-clause-takes
returns-in-Some-Bracket-clause-takes c = rw c.pop.ensures.nest (bracket_takes c.args.state c.args.nest.now.nest c.args.had_line_break (cc (c.may_close.ensures, c.if-not-may_close.false)) (cc (c.top.ensures, c.in-Some-Bracket.is, c.in-Some-Bracket.field-0-is)))
