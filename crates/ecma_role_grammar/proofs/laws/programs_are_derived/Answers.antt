use Rattle.ecma_role_grammar.proofs.Samples.{lines_without_semicolons_derives, arrow_without_semicolon_derives, import_and_export_derives, regex_behind_loop_derives, quotient_derives, match_divided_derives, postfix_divided_derives, regex_behind_head_derives, call_divided_derives, regex_behind_block_derives, object_divided_derives, function_divided_derives, async_generator_derives, arrow_in_conditional_derives, loop_over_matches_derives, class_and_regex_derives, labelled_switch_derives, template_divided_derives}
use Rattle.ecma_role_grammar.proofs.laws.programs_are_derived.Goals as goal

pub returns-clause-quotient : goal.returns-clause-quotient
returns-clause-quotient c = quotient_derives

pub returns-clause-match_divided : goal.returns-clause-match_divided
returns-clause-match_divided c = match_divided_derives

pub returns-clause-postfix_divided : goal.returns-clause-postfix_divided
returns-clause-postfix_divided c = postfix_divided_derives

pub returns-clause-regex_behind_head : goal.returns-clause-regex_behind_head
returns-clause-regex_behind_head c = regex_behind_head_derives

pub returns-clause-call_divided : goal.returns-clause-call_divided
returns-clause-call_divided c = call_divided_derives

pub returns-clause-regex_behind_block : goal.returns-clause-regex_behind_block
returns-clause-regex_behind_block c = regex_behind_block_derives

pub returns-clause-object_divided : goal.returns-clause-object_divided
returns-clause-object_divided c = object_divided_derives

pub returns-clause-function_divided : goal.returns-clause-function_divided
returns-clause-function_divided c = function_divided_derives

pub returns-clause-async_generator : goal.returns-clause-async_generator
returns-clause-async_generator c = async_generator_derives

pub returns-clause-arrow_in_conditional : goal.returns-clause-arrow_in_conditional
returns-clause-arrow_in_conditional c = arrow_in_conditional_derives

pub returns-clause-loop_over_matches : goal.returns-clause-loop_over_matches
returns-clause-loop_over_matches c = loop_over_matches_derives

pub returns-clause-class_and_regex : goal.returns-clause-class_and_regex
returns-clause-class_and_regex c = class_and_regex_derives

pub returns-clause-labelled_switch : goal.returns-clause-labelled_switch
returns-clause-labelled_switch c = labelled_switch_derives

pub returns-clause-template_divided : goal.returns-clause-template_divided
returns-clause-template_divided c = template_divided_derives

pub returns-clause-regex_behind_loop : goal.returns-clause-regex_behind_loop
returns-clause-regex_behind_loop c = regex_behind_loop_derives

pub returns-clause-import_and_export : goal.returns-clause-import_and_export
returns-clause-import_and_export c = import_and_export_derives

pub returns-clause-arrow_without_semicolon : goal.returns-clause-arrow_without_semicolon
returns-clause-arrow_without_semicolon c = arrow_without_semicolon_derives

pub returns-clause-lines_without_semicolons : goal.returns-clause-lines_without_semicolons
returns-clause-lines_without_semicolons c = lines_without_semicolons_derives
