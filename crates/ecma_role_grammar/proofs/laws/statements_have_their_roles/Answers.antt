use Rattle.ecma_role_grammar.proofs.Whole.{roles_right, statements_end}
use Rattle.ecma_role_grammar.proofs.laws.statements_have_their_roles.Goals as goal

pub returns-clause-roles : goal.returns-clause-roles
returns-clause-roles c = roles_right

pub returns-clause-end : goal.returns-clause-end
returns-clause-end c = statements_end
