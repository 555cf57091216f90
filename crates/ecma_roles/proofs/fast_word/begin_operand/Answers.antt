use Rattle.std.proofs.Common.{⊎_elim, refl}
use Rattle.ecma_role_table.specs.declared.part.PartKind.TheVariants.{Reserved}
use Rattle.ecma_role_table.specs.declared.part.Reserved.TheVariants as reserved
use Rattle.ecma_role_table.specs.declared.state.State.TheVariants as state
use Rattle.ecma_roles.proofs.FastLemmas.{takes_led}
use Rattle.ecma_roles.proofs.FastWordLemmas.{function_is_operand, operand_takes, prefix_takes}
use Rattle.ecma_roles.proofs.fast_word.begin_operand.Goals as goal

pub returns-in-This-clause-takes : goal.returns-in-This-clause-takes
returns-in-This-clause-takes c = ⊎_elim
    (λ is. rw is (operand_takes (Reserved reserved.This) c.args.nest.now.nest c.args.had_line_break refl))
    (λ is. rw is (operand_takes (Reserved reserved.Super) c.args.nest.now.nest c.args.had_line_break refl))
    c.in-This.is

pub returns-in-TypeOf-clause-takes : goal.returns-in-TypeOf-clause-takes
returns-in-TypeOf-clause-takes c = ⊎_elim
    (λ is. rw is (prefix_takes (Reserved reserved.Typeof) c.args.nest.now.nest c.args.had_line_break refl))
    (λ other. ⊎_elim
    (λ is. rw is (prefix_takes (Reserved reserved.Void) c.args.nest.now.nest c.args.had_line_break refl))
    (λ last. ⊎_elim
    (λ is. rw is (prefix_takes (Reserved reserved.Delete) c.args.nest.now.nest c.args.had_line_break refl))
    (λ is. rw is (prefix_takes (Reserved reserved.New) c.args.nest.now.nest c.args.had_line_break refl))
    last)
    other)
    c.in-TypeOf.is

pub returns-in-Function-clause-takes : goal.returns-in-Function-clause-takes
returns-in-Function-clause-takes c = takes_led state.Operand c.args.nest.now.nest _ _ _ c.args.had_line_break state.Head _ c.enter_to.ensures.entered
    (rw c.in-Function.is (function_is_operand c.args.nest.now.nest c.args.had_line_break))
