use Rattle.std.proofs.Common.{⊎_elim, refl}
use Rattle.ecma_role_table.specs.declared.part.Name.TheVariants as name
use Rattle.ecma_role_table.specs.declared.part.PartKind.TheVariants.{Name}
use Rattle.ecma_role_table.specs.declared.frame.FrameKind.TheVariants as frame
use Rattle.ecma_role_table.specs.declared.state.State.TheVariants as state
use Rattle.ecma_roles.proofs.FastLemmas.{takes_pushed}
use Rattle.ecma_roles.proofs.FastWordLemmas.{conditional_takes, name_begins, name_behind_let, name_is_body, name_is_bound, name_is_in_head, name_is_key, operand_takes, returned_takes, word_takes}
use Rattle.ecma_roles.proofs.fast_word.name.Goals as goal

pub returns-in-Operand-clause-takes : goal.returns-in-Operand-clause-takes
returns-in-Operand-clause-takes c = ⊎_elim
    (λ is. rw is (operand_takes (Name name.Other) c.args.nest.now.nest c.args.had_line_break refl))
    (λ other. ⊎_elim
    (λ is. rw is (conditional_takes (Name name.Other) c.args.nest.now.nest c.args.had_line_break refl))
    (λ last. ⊎_elim
    (λ is. rw is (word_takes (Name name.Other) c.args.nest.now.nest c.args.had_line_break refl))
    (λ is. rw is (name_is_body c.args.nest.now.nest c.args.had_line_break))
    last)
    other)
    c.in-Operand.is

pub returns-in-Statement-clause-takes : goal.returns-in-Statement-clause-takes
returns-in-Statement-clause-takes c = rw c.in-Statement.is (name_begins c.args.nest.now.nest c.args.had_line_break)

pub returns-in-Binding-clause-takes : goal.returns-in-Binding-clause-takes
returns-in-Binding-clause-takes c = rw c.in-Binding.is (name_is_bound c.args.nest.now.nest c.args.had_line_break)

pub returns-in-MaybeLet-clause-takes : goal.returns-in-MaybeLet-clause-takes
returns-in-MaybeLet-clause-takes c = takes_pushed c.args.state c.args.nest.now.nest _ (Name name.Other) c.args.had_line_break frame.Declaration state.AfterBinding _ c.push_to.ensures.pushed
    (rw c.in-MaybeLet.is (name_behind_let c.args.nest.now.nest c.args.had_line_break))

pub returns-in-Key-clause-takes : goal.returns-in-Key-clause-takes
returns-in-Key-clause-takes c = rw c.in-Key.is (name_is_key c.args.nest.now.nest c.args.had_line_break)

pub returns-in-Head-clause-takes : goal.returns-in-Head-clause-takes
returns-in-Head-clause-takes c = rw c.in-Head.is (name_is_in_head c.args.nest.now.nest c.args.had_line_break)

pub returns-in-Restricted-clause-takes : goal.returns-in-Restricted-clause-takes
returns-in-Restricted-clause-takes c = rw c.if-not-had_line_break.true (rw c.in-Restricted.is (returned_takes (Name name.Other) c.args.nest.now.nest refl))
