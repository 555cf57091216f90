use Rattle.ecma_role_table.specs.declared.frame.FrameKind.TheVariants as frame
use Rattle.ecma_role_table.specs.declared.part.PartKind.TheVariants.{Sign}
use Rattle.ecma_role_table.specs.declared.part.Sign.TheVariants as sign
use Rattle.ecma_role_table.specs.declared.state.State.TheVariants as state
use Rattle.ecma_roles.proofs.FastLemmas.{bracket_opens, takes_pushed}
use Rattle.ecma_roles.proofs.fast.left_bracket.Goals as goal

pub returns-then-may_close-clause-takes : goal.returns-then-may_close-clause-takes
returns-then-may_close-clause-takes c = takes_pushed c.args.state c.args.nest.now.nest _ (Sign sign.LBracket) c.args.had_line_break frame.Bracket state.Operand _ c.push_to.ensures.pushed
    (bracket_opens c.args.state c.args.nest.now.nest c.args.had_line_break (cc (c.may_close.ensures, c.if-may_close.true)))
