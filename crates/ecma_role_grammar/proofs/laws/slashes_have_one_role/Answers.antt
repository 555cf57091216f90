use Rattle.ecma_role_grammar.proofs.Whole.{one_role}
use Rattle.ecma_role_grammar.proofs.laws.slashes_have_one_role.Goals as goal

pub returns : goal.returns
returns c = one_role
