use Rattle.std.proofs.Common.{⊎_elim}
use Rattle.ecma_role_table.specs.declared.frame.FrameKind.TheVariants as frame
use Rattle.ecma_role_table.specs.declared.state.State.TheVariants as state
use Rattle.ecma_roles.proofs.FastLemmas.{takes_pushed}
use Rattle.ecma_roles.proofs.FastWordLemmas.{declaration_in_head, let_in_head}
use Rattle.ecma_roles.proofs.fast_word.begin_head.Goals as goal

pub returns-in-Var-clause-takes : goal.returns-in-Var-clause-takes
returns-in-Var-clause-takes c = takes_pushed state.ForHead c.args.nest.now.nest _ _ c.args.had_line_break frame.Declaration state.Binding _ c.push_to.ensures.pushed
    (⊎_elim
    (λ is. rw is (declaration_in_head c.args.nest.now.nest c.args.had_line_break))
    (λ is. rw is (declaration_in_head c.args.nest.now.nest c.args.had_line_break))
    c.in-Var.is)

pub returns-in-Let-clause-takes : goal.returns-in-Let-clause-takes
returns-in-Let-clause-takes c = rw c.in-Let.is (let_in_head c.args.nest.now.nest c.args.had_line_break)
