use Rattle.ecma_role_table.specs.declared.frame.FrameKind.TheVariants as frame
use Rattle.ecma_role_table.specs.declared.part.PartKind.TheVariants.{Sign}
use Rattle.ecma_role_table.specs.declared.part.Sign.TheVariants as sign
use Rattle.ecma_role_table.specs.declared.state.State.TheVariants as state
use Rattle.ecma_roles.proofs.FastLemmas.{control_opens, group_begins, group_opens, head_opens, parameters_open, paren_opens, takes_pushed}
use Rattle.ecma_roles.proofs.fast.left_paren.Goals as goal

pub returns-in-Operand-clause-takes : goal.returns-in-Operand-clause-takes
returns-in-Operand-clause-takes c = takes_pushed c.args.state c.args.nest.now.nest _ (Sign sign.LParen) c.args.had_line_break frame.Paren state.Operand _ c.push_to.ensures.pushed
    (rw c.in-Operand.is (group_opens c.args.nest.now.nest c.args.had_line_break))

pub returns-in-Head-clause-takes : goal.returns-in-Head-clause-takes
returns-in-Head-clause-takes c = takes_pushed c.args.state c.args.nest.now.nest _ (Sign sign.LParen) c.args.had_line_break frame.Parameters state.Operand _ c.push_to-in-Head.ensures.pushed
    (rw c.in-Head.is (parameters_open c.args.nest.now.nest c.args.had_line_break))

pub returns-in-Control-clause-takes : goal.returns-in-Control-clause-takes
returns-in-Control-clause-takes c = takes_pushed c.args.state c.args.nest.now.nest _ (Sign sign.LParen) c.args.had_line_break frame.Control state.Operand _ c.push_to-in-Control.ensures.pushed
    (rw c.in-Control.is (control_opens c.args.nest.now.nest c.args.had_line_break))

pub returns-in-Statement-clause-takes : goal.returns-in-Statement-clause-takes
returns-in-Statement-clause-takes c = takes_pushed c.args.state c.args.nest.now.nest _ (Sign sign.LParen) c.args.had_line_break frame.Paren state.Operand _ c.push_to-in-Statement.ensures.pushed
    (rw c.in-Statement.is (group_begins c.args.nest.now.nest c.args.had_line_break))

pub returns-in-ForKeyword-clause-takes : goal.returns-in-ForKeyword-clause-takes
returns-in-ForKeyword-clause-takes c = takes_pushed c.args.state c.args.nest.now.nest _ (Sign sign.LParen) c.args.had_line_break frame.For state.ForHead _ c.push_to-in-ForKeyword.ensures.pushed
    (rw c.in-ForKeyword.is (head_opens c.args.nest.now.nest c.args.had_line_break))

pub returns-then-not-over_candidate : goal.returns-then-not-over_candidate
returns-then-not-over_candidate c = record {
  none = c.push_to-then-not-over_candidate.ensures.none;
  takes = takes_pushed c.args.state c.args.nest.now.nest _ (Sign sign.LParen) c.args.had_line_break frame.Call state.Operand _ c.push_to-then-not-over_candidate.ensures.pushed
      (paren_opens c.args.state c.args.nest.now.nest c.args.had_line_break (cc (c.is_complete.ensures, c.if-is_complete.true)) (cc (c.top.ensures, c.over_candidate.ensures, c.if-not-over_candidate.true)));
}
