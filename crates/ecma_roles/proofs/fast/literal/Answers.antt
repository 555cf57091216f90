use Rattle.std.proofs.Common.{⊎_elim, refl}
use Rattle.ecma_role_table.specs.declared.part.PartKind.TheVariants.{Sign}
use Rattle.ecma_role_table.specs.declared.part.Sign.TheVariants as sign
use Rattle.ecma_roles.proofs.FastWordLemmas.{conditional_takes, literal_begins, literal_is_key, operand_takes, returned_takes}
use Rattle.ecma_roles.proofs.fast.literal.Goals as goal

pub returns-in-Operand : goal.returns-in-Operand
returns-in-Operand c = ⊎_elim
    (λ is. rw is (operand_takes (Sign sign.Literal) c.args.nest.now.nest c.args.had_line_break refl))
    (λ other. ⊎_elim
    (λ is. rw is (conditional_takes (Sign sign.Literal) c.args.nest.now.nest c.args.had_line_break refl))
    (λ is. rw is (literal_begins c.args.nest.now.nest c.args.had_line_break))
    other)
    c.in-Operand.is

pub returns-in-Key : goal.returns-in-Key
returns-in-Key c = rw c.in-Key.is (literal_is_key c.args.nest.now.nest c.args.had_line_break)

pub returns-in-Restricted : goal.returns-in-Restricted
returns-in-Restricted c = rw c.if-not-had_line_break.true (rw c.in-Restricted.is (returned_takes (Sign sign.Literal) c.args.nest.now.nest refl))
