use Rattle.ecma_role_table.specs.declared.part.PartKind.TheVariants.{Sign}
use Rattle.ecma_role_table.specs.declared.part.Sign.TheVariants as sign
use Rattle.ecma_roles.proofs.FastLemmas.{comma_behind_key, comma_takes, takes_found}
use Rattle.ecma_roles.proofs.fast.comma.Goals as goal

pub returns-then-may_go_on : goal.returns-then-may_go_on
returns-then-may_go_on c = takes_found c.args.state c.args.nest.now.nest (Sign sign.Comma) c.args.had_line_break c.comma_state.result _ c.comma_state.ensures
    (λ next is. comma_takes c.args.state c.args.nest.now.nest c.args.had_line_break next (cc (c.may_go_on.ensures, c.if-may_go_on.true)) (cc (c.top.ensures, is)))

pub returns-in-Key : goal.returns-in-Key
returns-in-Key c = rw c.in-Key.is (comma_behind_key c.args.nest.now.nest c.args.had_line_break (cc (c.has_no_method.ensures, c.if-has_no_method.true)))
