use Rattle.ecma_role_table.specs.declared.frame.FrameKind.TheVariants as frame
use Rattle.ecma_role_table.specs.declared.part.PartKind.TheVariants.{Sign}
use Rattle.ecma_role_table.specs.declared.part.Sign.TheVariants as sign
use Rattle.ecma_role_table.specs.declared.state.State.TheVariants as state
use Rattle.ecma_roles.proofs.FastLemmas.{conditional_begins, takes_pushed}
use Rattle.ecma_roles.proofs.fast.question_mark.Goals as goal

pub returns-then-not-over_candidate-clause-takes : goal.returns-then-not-over_candidate-clause-takes
returns-then-not-over_candidate-clause-takes c = takes_pushed c.args.state c.args.nest.now.nest _ (Sign sign.QuestionMark) c.args.had_line_break frame.Conditional state.Conditional _ c.push_to.ensures.pushed
    (conditional_begins c.args.state c.args.nest.now.nest c.args.had_line_break (cc (c.is_complete.ensures, c.if-is_complete.true)) (cc (c.top.ensures, c.over_candidate.ensures, c.if-not-over_candidate.true)))
