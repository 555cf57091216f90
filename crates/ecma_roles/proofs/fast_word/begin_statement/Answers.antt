use Rattle.std.proofs.Common.{⊎_elim}
use Rattle.ecma_role_table.specs.declared.frame.FrameKind.TheVariants as frame
use Rattle.ecma_role_table.specs.declared.state.State.TheVariants as state
use Rattle.ecma_roles.proofs.FastLemmas.{takes_led, takes_pushed}
use Rattle.ecma_roles.proofs.FastWordLemmas.{break_begins, case_begins, control_begins, declaration_begins, for_begins, function_begins, let_begins, return_begins, statement_follows, this_begins}
use Rattle.ecma_roles.proofs.fast_word.begin_statement.Goals as goal

pub returns-in-Return-clause-takes : goal.returns-in-Return-clause-takes
returns-in-Return-clause-takes c = ⊎_elim
    (λ is. rw is (return_begins c.args.nest.now.nest c.args.had_line_break))
    (λ is. rw is (return_begins c.args.nest.now.nest c.args.had_line_break))
    c.in-Return.is

pub returns-in-Var-clause-takes : goal.returns-in-Var-clause-takes
returns-in-Var-clause-takes c = takes_pushed state.Statement c.args.nest.now.nest _ _ c.args.had_line_break frame.Declaration state.Binding _ c.push_to.ensures.pushed
    (⊎_elim
    (λ is. rw is (declaration_begins c.args.nest.now.nest c.args.had_line_break))
    (λ is. rw is (declaration_begins c.args.nest.now.nest c.args.had_line_break))
    c.in-Var.is)

pub returns-in-If-clause-takes : goal.returns-in-If-clause-takes
returns-in-If-clause-takes c = ⊎_elim
    (λ is. rw is (control_begins c.args.nest.now.nest c.args.had_line_break))
    (λ other. ⊎_elim
    (λ is. rw is (control_begins c.args.nest.now.nest c.args.had_line_break))
    (λ last. ⊎_elim
    (λ is. rw is (control_begins c.args.nest.now.nest c.args.had_line_break))
    (λ is. rw is (control_begins c.args.nest.now.nest c.args.had_line_break))
    last)
    other)
    c.in-If.is

pub returns-in-Else-clause-takes : goal.returns-in-Else-clause-takes
returns-in-Else-clause-takes c = ⊎_elim
    (λ is. rw is (statement_follows c.args.nest.now.nest c.args.had_line_break))
    (λ is. rw is (statement_follows c.args.nest.now.nest c.args.had_line_break))
    c.in-Else.is

pub returns-in-This-clause-takes : goal.returns-in-This-clause-takes
returns-in-This-clause-takes c = rw c.in-This.is (this_begins c.args.nest.now.nest c.args.had_line_break)

pub returns-in-Let-clause-takes : goal.returns-in-Let-clause-takes
returns-in-Let-clause-takes c = rw c.in-Let.is (let_begins c.args.nest.now.nest c.args.had_line_break)

pub returns-in-Function-clause-takes : goal.returns-in-Function-clause-takes
returns-in-Function-clause-takes c = takes_led state.Statement c.args.nest.now.nest _ _ _ c.args.had_line_break state.Head _ c.enter_to.ensures.entered
    (rw c.in-Function.is (function_begins c.args.nest.now.nest c.args.had_line_break))

pub returns-in-For-clause-takes : goal.returns-in-For-clause-takes
returns-in-For-clause-takes c = rw c.in-For.is (for_begins c.args.nest.now.nest c.args.had_line_break)

pub returns-in-Case-clause-takes : goal.returns-in-Case-clause-takes
returns-in-Case-clause-takes c = takes_pushed state.Statement c.args.nest.now.nest _ _ c.args.had_line_break frame.Case state.Operand _ c.push_to-in-Case.ensures.pushed
    (rw c.in-Case.is (case_begins c.args.nest.now.nest c.args.had_line_break))

pub returns-in-Break-clause-takes : goal.returns-in-Break-clause-takes
returns-in-Break-clause-takes c = ⊎_elim
    (λ is. rw is (break_begins c.args.nest.now.nest c.args.had_line_break))
    (λ is. rw is (break_begins c.args.nest.now.nest c.args.had_line_break))
    c.in-Break.is
