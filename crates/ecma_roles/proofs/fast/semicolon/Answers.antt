use Rattle.ecma_roles.proofs.FastLemmas.{declaration_ends, semicolon_takes, takes_found}
use Rattle.ecma_role_table.specs.declared.part.PartKind.TheVariants.{Sign}
use Rattle.ecma_role_table.specs.declared.part.Sign.TheVariants as sign
use Rattle.ecma_roles.proofs.fast.semicolon.Goals as goal

pub returns-then-declares-clause-takes : goal.returns-then-declares-clause-takes
returns-then-declares-clause-takes c = rw c.pop.ensures.nest (declaration_ends c.args.state c.args.nest.now.nest c.args.had_line_break c.in_ok-next.next (cc (c.may_go_on.ensures, c.if-not-may_go_on.false)) (cc (c.top-top.ensures, c.declares.ensures, c.if-declares.true)) (cc (c.under.ensures, c.semicolon_state.ensures, c.in_ok-next.was)))

pub returns-clause-takes : goal.returns-clause-takes
returns-clause-takes c = takes_found c.args.state c.args.nest.now.nest (Sign sign.Semi) c.args.had_line_break _ _ (c.semicolon_state-2.ensures)
    (λ next is. semicolon_takes c.args.state c.args.nest.now.nest c.args.had_line_break next (cc (c.may_go_on.ensures, c.if-not-may_go_on.false)) (cc (c.top-top.ensures, is)))
