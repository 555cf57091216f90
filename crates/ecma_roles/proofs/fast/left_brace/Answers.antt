use Rattle.ecma_role_table.specs.declared.frame.FrameKind.TheVariants as frame
use Rattle.ecma_role_table.specs.declared.part.PartKind.TheVariants.{Sign}
use Rattle.ecma_role_table.specs.declared.part.Sign.TheVariants as sign
use Rattle.ecma_role_table.specs.declared.state.State.TheVariants as state
use Rattle.ecma_roles.proofs.FastLemmas.{arrow_body_opens, block_opens, body_opens, object_opens, takes_pushed}
use Rattle.ecma_roles.proofs.fast.left_brace.Goals as goal

pub returns-in-Operand-clause-takes : goal.returns-in-Operand-clause-takes
returns-in-Operand-clause-takes c = takes_pushed c.args.state c.args.nest.now.nest _ (Sign sign.LBrace) c.args.had_line_break frame.Object state.Key _ c.push_to.ensures.pushed
    (rw c.in-Operand.is (object_opens c.args.nest.now.nest c.args.had_line_break (cc (c.has_no_method.ensures, c.if-has_no_method.true))))

pub returns-in-Statement-clause-takes : goal.returns-in-Statement-clause-takes
returns-in-Statement-clause-takes c = takes_pushed c.args.state c.args.nest.now.nest _ (Sign sign.LBrace) c.args.had_line_break frame.Block state.Statement _ c.push_to-in-Statement.ensures.pushed
    (rw c.in-Statement.is (block_opens c.args.nest.now.nest c.args.had_line_break))

pub returns-in_ok-kind-in-HeadEnd-clause-takes : goal.returns-in_ok-kind-in-HeadEnd-clause-takes
returns-in_ok-kind-in-HeadEnd-clause-takes c = rw c.turn.ensures.nest (rw c.in-HeadEnd.is (body_opens c.args.nest.now.nest c.args.had_line_break c.in_ok-kind-in-HeadEnd.kind (cc (c.top.ensures, c.body_kind.ensures, c.in_ok-kind-in-HeadEnd.is, c.in_ok-kind-in-HeadEnd.was))))

pub returns-in-ArrowBody-clause-takes : goal.returns-in-ArrowBody-clause-takes
returns-in-ArrowBody-clause-takes c = rw c.turn-in-ArrowBody.ensures.nest (rw c.in-ArrowBody.is (arrow_body_opens c.args.nest.now.nest c.args.had_line_break))
