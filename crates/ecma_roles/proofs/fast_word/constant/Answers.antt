use Rattle.std.proofs.Common.{⊎_elim, refl}
use Rattle.ecma_role_table.specs.declared.part.PartKind.TheVariants.{Reserved}
use Rattle.ecma_role_table.specs.declared.part.Reserved.TheVariants as reserved
use Rattle.ecma_roles.proofs.FastWordLemmas.{conditional_takes, operand_takes, returned_takes, word_takes}
use Rattle.ecma_roles.proofs.fast_word.constant.Goals as goal

pub returns-in-Operand : goal.returns-in-Operand
returns-in-Operand c = ⊎_elim
    (λ is. rw is (operand_takes (Reserved reserved.Constant) c.args.nest.now.nest c.args.had_line_break refl))
    (λ other. ⊎_elim
    (λ is. rw is (conditional_takes (Reserved reserved.Constant) c.args.nest.now.nest c.args.had_line_break refl))
    (λ is. rw is (word_takes (Reserved reserved.Constant) c.args.nest.now.nest c.args.had_line_break refl))
    other)
    c.in-Operand.is

pub returns-in-Restricted : goal.returns-in-Restricted
returns-in-Restricted c = rw c.if-not-had_line_break.true (rw c.in-Restricted.is (returned_takes (Reserved reserved.Constant) c.args.nest.now.nest refl))
