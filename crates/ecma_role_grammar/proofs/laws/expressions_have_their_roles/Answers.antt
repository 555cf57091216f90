use Rattle.ecma_role_grammar.proofs.Whole.{expression_roles, expressions_end}
use Rattle.ecma_role_grammar.proofs.laws.expressions_have_their_roles.Goals as goal

pub returns-clause-roles : goal.returns-clause-roles
returns-clause-roles c = expression_roles

pub returns-clause-end : goal.returns-clause-end
returns-clause-end c = expressions_end
