use Rattle.ecma_role_grammar.proofs.Whole.{module_roles, modules_one_role}
use Rattle.ecma_role_grammar.proofs.laws.modules_have_their_roles.Goals as goal

pub returns-clause-roles : goal.returns-clause-roles
returns-clause-roles c = module_roles

pub returns-clause-one : goal.returns-clause-one
returns-clause-one c = modules_one_role
