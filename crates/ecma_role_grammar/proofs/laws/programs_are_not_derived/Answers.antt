use Rattle.ecma_role_grammar.proofs.Samples.{no_division_for_regex, no_regex_for_division}
use Rattle.ecma_role_grammar.proofs.laws.programs_are_not_derived.Goals as goal

pub returns-clause-regex : goal.returns-clause-regex
returns-clause-regex c = no_regex_for_division

pub returns-clause-division : goal.returns-clause-division
returns-clause-division c = no_division_for_regex
