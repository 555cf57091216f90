-- Each derivation of the grammar runs
use Rattle.std.proofs.Common.{◌≡◌, ◌∙◌, ap, subst, sym, Bool, true, false, List, [], ◌∷◌, ◌++◌, Some, refl, arith, Option, None}
use Rattle.ecma_word.specs.declared.keyword.Keyword.TheVariants as keyword
use Rattle.ecma_word.specs.declared.known_ident.KnownIdent.TheVariants as known
use Rattle.ecma_word.specs.declared.word.WordKind.TheVariants as word
use Rattle.ecma_word.specs.declared.word.IdentKind.TheVariants as ident
use Rattle.ecma_word.specs.declared.operator.AssignOp.TheVariants as assigning
use Rattle.ecma_token_kind.specs.declared.kind.TokenKind.TheVariants as kind
use Rattle.ecma_role_table.specs.declared.frame.Around.{Around}
use Rattle.ecma_role_table.specs.declared.state.State.{State}
use Rattle.ecma_role_table.specs.declared.state.State.TheVariants as state
use Rattle.ecma_role_moves.specs.Nest.{Nested, dropped, dropped_from, nested, no_function, over_kinds, pushed}
use Rattle.ecma_role_tracks.specs.Slashes.{expects_operand}
use Rattle.ecma_role_moves.specs.Moves.{arrow_over, candidate_from, decorating}
use Rattle.ecma_role_moves.proofs.NestLemmas.{dropped_none}
use Rattle.ecma_role_table.specs.Frames.{over_candidate, over_declared_for}
use Rattle.ecma_role_table.specs.declared.frame.Frame.{Frame}
use Rattle.ecma_role_table.specs.declared.frame.FrameKind.{FrameKind}
use Rattle.ecma_role_table.specs.declared.frame.FrameKind.TheVariants as frame
use Rattle.ecma_role_table.specs.declared.frame.Kinds.TheVariants as kinds
use Rattle.ecma_role_tracks.specs.Track.{TrackView, first, stepped, track, tracked}
use Rattle.ecma_role_grammar.specs.Tokens.{Role, Token, begins_operand, part, parts, role_of, token}
use Rattle.ecma_role_grammar.specs.Grammar.{ArgumentList, Arguments, ArrowParameters, AssignmentExpression, AsyncArrowParameters, AttributeList, BinaryExpression, BindingElement, BindingElementList, BindingElisionElement, BindingPattern, BindingProperty, BindingPropertyList, BindingRest, BindingTarget, Block, Body, CallExpression, CaseClauses, Catch, ClassElement, ClassElementList, ClassElementName, ClassMember, ClassTail, ConciseBody, ConditionalExpression, Declaration, Derives, Element, ElementList, Elision, Expression, Finally, ForHead, ForOfHead, FormalParameterList, FormalParameters, ImportClause, LeftHandSideExpression, MemberExpression, MethodDefinition, ModuleEnd, ModuleItem, ModuleItemList, NamedSpecifiers, NewExpression, Nonterminal, OpenList, OpenStatement, OptionalChain, OptionalExpression, OptionalTest, Parameters, ParametersAndBody, PrimaryExpression, PropertyDefinition, PropertyDefinitionList, PropertyName, SpecifierList, Statement, StatementList, StatementListItem, TemplateLiteral, TemplateSpans, UnaryExpression, UpdateExpression, VariableDeclaration, VariableDeclarationList, accessor, argument, arguments, arguments_comma, array, array_holes, array_pattern, array_pattern_holes, array_pattern_rest, arrow, arrow_comma, arrow_list, arrow_list_rest, arrow_name, arrow_none, arrow_rest, assignment, assignment_conditional, async_arrow, async_comma, async_function_declaration, async_function_expression, async_generator_method, async_list, async_method, async_name, async_none, attribute, begins_brace, binary_in, binary_instanceof, binary_operation, binary_private, binary_unary, binding_member, binding_name, binding_name_value, binding_property, block, block_statement, body, body_open, break_label, break_statement, call_again, call_index, call_member, call_name, call_private, call_template, catch_block, catch_parameter, chain_call, chain_index, chain_more_call, chain_more_index, chain_more_name, chain_more_private, chain_name, chain_private, class_declaration, class_expression, class_extends, class_field, class_field_value, class_member, class_method, class_plain, class_semicolon, comma, computed_name, concise_body, conditional, conditional_binary, continue_label, continue_statement, debugger, do_while, element, element_behind_holes, element_name, element_name_value, element_pattern, element_pattern_value, element_private_name, element_property_name, element_spread, element_value, empty_object, empty_pattern, empty_statement, export_all, export_all_as, export_declaration, export_default, export_default_async, export_default_class, export_default_function, export_from, export_named, export_variables, expression, expression_statement, finally, for_await, for_expressions, for_in, for_of, for_of_head, for_statement, for_variable_in, for_variable_of, for_variables, function_body, function_declaration, function_expression, generator_method, hole, holes_array, holes_pattern, holes_rest_pattern, identifier_reference, if_else, if_statement, import_call, import_default, import_default_named, import_default_namespace, import_from, import_meta, import_module, import_named, import_namespace, in_arrow, in_function, in_parens, item_declaration, item_statement, labelled, labelled_function, left_call, left_new, left_optional, lexical_declaration, line_end, literal, literal_name, member_index, member_name, member_new, member_primary, member_private, member_template, method, module_code, module_end, module_end_comma, module_end_none, module_end_with, module_statements, more_argument, more_attributes, more_binding_properties, more_class_elements, more_clauses, more_elements, more_items, more_parameters, more_pattern_elements, more_properties, more_specifiers, more_spread, more_statements, more_variables, new_member, new_plain, new_target, no_arguments, no_clauses, no_elements, no_hole, no_items, no_parameters, no_specifiers, no_statements, no_test, object, object_comma, object_pattern, object_pattern_comma, object_pattern_rest, open_break, open_break_label, open_continue, open_continue_label, open_debugger, open_do, open_else, open_expression, open_for, open_for_await, open_if, open_labelled, open_lexical, open_lexical_line, open_line, open_list, open_return, open_return_value, open_throw, open_variables, open_while, open_with, optional_again, optional_call, optional_member, parameter, parameters, parameters_and_body, parameters_comma, parameters_rest, parenthesized, pattern_element, property, property_initialized, property_method, property_reference, property_spread, property_value, regular_expression, renamed, reserved, rest_name, rest_object_pattern, rest_parameter, rest_pattern, return_statement, return_value, specifier, specifiers, specifiers_comma, spread_argument, static_block, static_member, super_call, super_index, super_name, switch_default, switch_statement, target_name, target_pattern, template, template_literal, template_span, template_text, test, this_value, throw_statement, try_catch, try_catch_finally, try_finally, unary_await, unary_prefix, unary_update, update_left, update_postfix, variable, variable_name, variable_statement, variable_value, while_statement, with_in, with_statement, without_in, yield_alone, yield_from, yield_value}
use Rattle.ecma_role_grammar.specs.Laws.{Begins, EndsExpression, EndsStatements, Expects, RolesAreRight, around_of, ends_expression}
use Rattle.ecma_role_grammar.proofs.Runs.{Right}
use Rattle.ecma_role_grammar.proofs.Places.{AssignmentRuns, AsyncHeadRuns, AtOperand, Bare, BehindRuns, BodyRuns, BoundRuns, Braces, BracesRuns, Concise, Continues, DeclarationRuns, ElementRuns, EndRuns, Ended, Ends, ForHeadRuns, FunctionRuns, GapRuns, Grouped, HeadRuns, ImportRuns, InsideRuns, ItemRuns, ListRuns, MemberRuns, ModuleRuns, NameRuns, OperandRuns, Over, ParameterRuns, Plain, Postfix, PropertyRuns, Rests, SpanRuns, StatementRuns, TailRuns, TestRuns, TopEnds, Whole, WordRuns, Yielding, begins_export, begins_pattern, ended, ended_state, is_label_end, over, top_of, under_of}
use Rattle.ecma_role_grammar.proofs.Bodies as bodies
use Rattle.ecma_role_grammar.proofs.Control as controls
use Rattle.ecma_role_grammar.proofs.Declarations as declarations
use Rattle.ecma_role_grammar.proofs.Expressions as expressions
use Rattle.ecma_role_grammar.proofs.Functions as functions
use Rattle.ecma_role_grammar.proofs.Literals as literals
use Rattle.ecma_role_grammar.proofs.Members as members
use Rattle.ecma_role_grammar.proofs.Modules as modules
use Rattle.ecma_role_grammar.proofs.Statements as blocks

nil-cons : (b : Token) (bs : List Token) → [] ≡ b ∷ bs → ⊥
nil-cons b bs is = grind (arith, is)

cons-same : (a b : Token) (xs ys : List Token) → a ∷ xs ≡ b ∷ ys → (a ≡ b) × (xs ≡ ys)
cons-same a b xs ys is = grind (arith, is)

-- what is shown of each nonterminal
abbrev Meaning : Nonterminal → Parameters → List Token → Type 0
Meaning PrimaryExpression p xs = OperandRuns p xs
Meaning Elision p xs = GapRuns xs
Meaning ElementList p xs = ItemRuns (with_in p) xs
Meaning Element p xs = ItemRuns (with_in p) xs
Meaning TemplateLiteral p xs = OperandRuns p xs × BehindRuns p xs
Meaning TemplateSpans p xs = SpanRuns p xs
Meaning MemberExpression p xs = OperandRuns p xs
Meaning NewExpression p xs = OperandRuns p xs
Meaning CallExpression p xs = OperandRuns p xs
Meaning Arguments p xs = BehindRuns p xs
Meaning ArgumentList p xs = ListRuns (with_in p) xs
Meaning OptionalChain p xs = BehindRuns p xs
Meaning OptionalExpression p xs = OperandRuns p xs
Meaning LeftHandSideExpression p xs = OperandRuns p xs
Meaning UpdateExpression p xs = OperandRuns p xs
Meaning UnaryExpression p xs = OperandRuns p xs
Meaning BinaryExpression p xs = OperandRuns p xs
Meaning ConditionalExpression p xs = AssignmentRuns p xs
Meaning AssignmentExpression p xs = AssignmentRuns p xs
Meaning ArrowParameters p xs = HeadRuns p xs
Meaning AsyncArrowParameters p xs = AsyncHeadRuns p xs
Meaning ConciseBody p xs = BodyRuns p xs
Meaning Expression p xs = ListRuns p xs
Meaning PropertyDefinition p xs = PropertyRuns p xs
Meaning PropertyDefinitionList p xs = PropertyRuns p xs
Meaning PropertyName p xs = NameRuns p xs
Meaning ClassElementName p xs = NameRuns p xs
Meaning MethodDefinition p xs = MemberRuns p xs
Meaning ClassTail p xs = TailRuns p xs
Meaning ClassMember p xs = ElementRuns p xs
Meaning ClassElement p xs = ElementRuns p xs
Meaning ClassElementList p xs = ElementRuns p xs
Meaning BindingProperty p xs = PropertyRuns p xs
Meaning BindingPropertyList p xs = PropertyRuns p xs
Meaning BindingRest p xs = ItemRuns (with_in p) xs
Meaning BindingPattern p xs = OperandRuns (without_in p) xs × (begins_pattern xs ≡ true)
Meaning BindingElement p xs = AssignmentRuns (with_in p) xs
Meaning BindingElementList p xs = ItemRuns (with_in p) xs
Meaning BindingElisionElement p xs = ItemRuns (with_in p) xs
Meaning FormalParameters p xs = ParameterRuns (with_in p) xs
Meaning FormalParameterList p xs = ItemRuns (with_in p) xs
Meaning ParametersAndBody p xs = FunctionRuns p xs
Meaning BindingTarget p xs = OperandRuns (without_in p) xs × BoundRuns p xs
Meaning VariableDeclaration p xs = DeclarationRuns p xs
Meaning VariableDeclarationList p xs = DeclarationRuns p xs
Meaning OptionalTest p xs = TestRuns p xs
Meaning ForHead p xs = ForHeadRuns p xs
Meaning ForOfHead p xs = ForHeadRuns p xs
Meaning CaseClauses p xs = StatementRuns p xs
Meaning Catch p xs = StatementRuns p xs
Meaning Finally p xs = StatementRuns p xs
Meaning Block p xs = StatementRuns p xs × (begins_brace xs ≡ true)
Meaning Declaration p xs = StatementRuns p xs × (begins_export xs ≡ true)
Meaning Statement p xs = StatementRuns p xs
Meaning StatementListItem p xs = StatementRuns p xs
Meaning StatementList p xs = StatementRuns p xs
Meaning OpenStatement p xs = InsideRuns p xs
Meaning OpenList p xs = InsideRuns p xs
Meaning Body p xs = InsideRuns p xs
Meaning SpecifierList p xs = WordRuns xs
Meaning NamedSpecifiers p xs = BracesRuns xs
Meaning AttributeList p xs = WordRuns xs
Meaning ModuleEnd p xs = EndRuns xs
Meaning ImportClause p xs = ImportRuns xs
Meaning ModuleItem p xs = ModuleRuns p xs
Meaning ModuleItemList p xs = ModuleRuns p xs

runs : (n : Nonterminal) (p : Parameters) (xs : List Token) → Derives n p xs → Meaning n p xs
runs n p xs (this_value {p = q} a) = expressions.this_runs q a
runs n p xs (identifier_reference {p = q} w a h) = expressions.identifier_runs q w a h
runs n p xs (literal {p = q} k a h) = expressions.literal_runs q k a h
runs n p xs (regular_expression {p = q} a) = expressions.regex_runs q a
runs n p xs (parenthesized {p = q} {xs = us} a b d) = expressions.parenthesized_runs q us a b (runs Expression (with_in q) us d)
runs n p xs (member_primary {p = q} {xs = us} d) = runs PrimaryExpression q us d
runs n p xs (member_index {p = q} {xs = us} {ys = vs} a b d k) = expressions.followed q us (token kind.LBracket a ∷ vs ++ token kind.RBracket b ∷ []) (runs MemberExpression q us d) (expressions.index_behind q vs a b (runs Expression (with_in q) vs k))
runs n p xs (member_name {p = q} {xs = us} w a b d) = expressions.followed q us (token kind.Dot a ∷ token (kind.Word w) b ∷ []) (runs MemberExpression q us d) (expressions.name_behind q w a b)
runs n p xs (member_new {p = q} {xs = us} {ys = vs} a d k) = expressions.new_runs q (us ++ vs) a (expressions.followed q us vs (runs MemberExpression q us d) (runs Arguments q vs k))
runs n p xs (new_member {p = q} {xs = us} d) = runs MemberExpression q us d
runs n p xs (new_plain {p = q} {xs = us} a d) = expressions.new_runs q us a (runs NewExpression q us d)
runs n p xs (call_member {p = q} {xs = us} {ys = vs} d k) = expressions.followed q us vs (runs MemberExpression q us d) (runs Arguments q vs k)
runs n p xs (call_again {p = q} {xs = us} {ys = vs} d k) = expressions.followed q us vs (runs CallExpression q us d) (runs Arguments q vs k)
runs n p xs (call_index {p = q} {xs = us} {ys = vs} a b d k) = expressions.followed q us (token kind.LBracket a ∷ vs ++ token kind.RBracket b ∷ []) (runs CallExpression q us d) (expressions.index_behind q vs a b (runs Expression (with_in q) vs k))
runs n p xs (call_name {p = q} {xs = us} w a b d) = expressions.followed q us (token kind.Dot a ∷ token (kind.Word w) b ∷ []) (runs CallExpression q us d) (expressions.name_behind q w a b)
runs n p xs (no_arguments {p = q} a b) = expressions.no_arguments_behind q a b
runs n p xs (arguments {p = q} {xs = us} a b d) = expressions.arguments_behind q us a b (runs ArgumentList q us d)
runs n p xs (arguments_comma {p = q} {xs = us} a b c d) = expressions.arguments_comma_behind q us a b c (runs ArgumentList q us d)
runs n p xs (argument {p = q} {xs = us} d) = expressions.listed (with_in q) us (runs AssignmentExpression (with_in q) us d)
runs n p xs (spread_argument {p = q} {xs = us} a d) = expressions.spread_runs (with_in q) us a (runs AssignmentExpression (with_in q) us d)
runs n p xs (more_argument {p = q} {xs = us} {ys = vs} a d k) = expressions.comma_runs (with_in q) us vs a (runs ArgumentList q us d) (runs AssignmentExpression (with_in q) vs k)
runs n p xs (more_spread {p = q} {xs = us} {ys = vs} a b d k) = expressions.comma_spread_runs (with_in q) us vs a b (runs ArgumentList q us d) (runs AssignmentExpression (with_in q) vs k)
runs n p xs (left_new {p = q} {xs = us} d) = runs NewExpression q us d
runs n p xs (left_call {p = q} {xs = us} d) = runs CallExpression q us d
runs n p xs (update_left {p = q} {xs = us} d) = runs LeftHandSideExpression q us d
runs n p xs (update_postfix {p = q} {xs = us} k h d) = expressions.postfix_runs q us k h (runs LeftHandSideExpression q us d)
runs n p xs (unary_update {p = q} {xs = us} d) = runs UpdateExpression q us d
runs n p xs (unary_prefix {p = q} {xs = us} k a h d) = expressions.prefix_runs q us k a h (runs UnaryExpression q us d)
runs n p xs (binary_unary {p = q} {xs = us} d) = runs UnaryExpression q us d
runs n p xs (binary_operation {p = q} {xs = us} {ys = vs} op a d k) = expressions.binary_runs q us vs op a (runs BinaryExpression q us d) (runs UnaryExpression q vs k)
runs n p xs (binary_instanceof {p = q} {xs = us} {ys = vs} a d k) = expressions.instanceof_runs q us vs a (runs BinaryExpression q us d) (runs UnaryExpression q vs k)
runs n p xs (binary_in {p = q} {xs = us} {ys = vs} a h d k) = expressions.in_runs q us vs a h (runs BinaryExpression q us d) (runs UnaryExpression q vs k)
runs n p xs (conditional_binary {p = q} {xs = us} d) = expressions.operand_assigned q us (runs BinaryExpression q us d)
runs n p xs (conditional {p = q} {xs = us} {ys = vs} {zs = ws} a b d k j) = expressions.conditional_runs q us vs ws a b (runs BinaryExpression q us d) (runs AssignmentExpression (with_in q) vs k) (runs AssignmentExpression q ws j)
runs n p xs (assignment_conditional {p = q} {xs = us} d) = runs ConditionalExpression q us d
runs n p xs (assignment {p = q} {xs = us} {ys = vs} op a d k) = expressions.assignment_runs q us vs op a (runs LeftHandSideExpression q us d) (runs AssignmentExpression q vs k)
runs n p xs (expression {p = q} {xs = us} d) = expressions.listed q us (runs AssignmentExpression q us d)
runs n p xs (comma {p = q} {xs = us} {ys = vs} a d k) = expressions.comma_runs q us vs a (runs Expression q us d) (runs AssignmentExpression q vs k)
runs n p xs (template {p = q} {xs = us} d) = (runs TemplateLiteral q us d).0
runs n p xs (function_expression {p = q} name us g a b h d) = functions.function_expression_runs q name us g a b h (runs ParametersAndBody (in_function g false) us d)
runs n p xs (async_function_expression {p = q} name us g a b h d) = functions.async_function_expression_runs q name us g a b h (runs ParametersAndBody (in_function g true) us d)
runs n p xs (holes_array {p = q} {xs = us} a b d) = literals.holes_runs q us a b (runs Elision q us d)
runs n p xs (array {p = q} {xs = us} a b d) = literals.array_runs q us a b (runs ElementList q us d)
runs n p xs (array_holes {p = q} {xs = us} {ys = vs} a b c d k) = literals.array_holes_runs q us vs a b c (runs ElementList q us d) (runs Elision q vs k)
runs n p xs (no_hole {p = q}) = literals.no_gap
runs n p xs (hole {p = q} {xs = us} a d) = literals.gap_runs us a (runs Elision q us d)
runs n p xs (element {p = q} {xs = us} d) = runs Element q us d
runs n p xs (more_elements {p = q} {xs = us} {ys = vs} a d k) = literals.more_item_runs (with_in q) us vs a (runs ElementList q us d) (runs Element q vs k)
runs n p xs (element_value {p = q} {xs = us} {ys = vs} d k) = literals.gap_item_runs (with_in q) us vs (runs Elision q us d) (literals.item_runs (with_in q) vs (runs AssignmentExpression (with_in q) vs k))
runs n p xs (element_spread {p = q} {xs = us} {ys = vs} a d k) = literals.gap_item_runs (with_in q) us (token kind.DotDotDot a ∷ vs) (runs Elision q us d) (literals.spread_item_runs (with_in q) vs a (runs AssignmentExpression (with_in q) vs k))
runs n p xs (template_literal {p = q} {xs = us} a b d) = literals.template_runs q us a b (runs TemplateSpans q us d)
runs n p xs (template_text {p = q} a) = literals.template_text_runs q a
runs n p xs (template_span {p = q} {xs = us} {ys = vs} a b c d k) = literals.template_span_runs q us vs a b c (runs TemplateSpans q us d) (runs Expression (with_in q) vs k)
runs n p xs (member_template {p = q} {xs = us} {ys = vs} d k) = expressions.followed q us vs (runs MemberExpression q us d) (runs TemplateLiteral q vs k).1
runs n p xs (member_private {p = q} {xs = us} w a b c d) = expressions.followed q us (token kind.Dot a ∷ token kind.Hash b ∷ token (kind.Word w) c ∷ []) (runs MemberExpression q us d) (literals.private_behind q w a b c)
runs n p xs (super_index {p = q} {xs = us} a b c d) = literals.super_runs q (token kind.LBracket b ∷ us ++ token kind.RBracket c ∷ []) a (expressions.index_behind q us b c (runs Expression (with_in q) us d))
runs n p xs (super_name {p = q} w a b c) = literals.super_runs q (token kind.Dot b ∷ token (kind.Word w) c ∷ []) a (expressions.name_behind q w b c)
runs n p xs (new_target {p = q} a b c) = literals.new_target_runs q (word.Ident (ident.Known known.Target)) a b c
runs n p xs (import_meta {p = q} a b c) = literals.import_meta_runs q (word.Ident (ident.Known known.Meta)) a b c
runs n p xs (call_template {p = q} {xs = us} {ys = vs} d k) = expressions.followed q us vs (runs CallExpression q us d) (runs TemplateLiteral q vs k).1
runs n p xs (call_private {p = q} {xs = us} w a b c d) = expressions.followed q us (token kind.Dot a ∷ token kind.Hash b ∷ token (kind.Word w) c ∷ []) (runs CallExpression q us d) (literals.private_behind q w a b c)
runs n p xs (super_call {p = q} {xs = us} a d) = literals.super_runs q us a (runs Arguments q us d)
runs n p xs (import_call {p = q} {xs = us} a b c d) = literals.import_call_runs q us a b c (runs AssignmentExpression (with_in q) us d)
runs n p xs (optional_member {p = q} {xs = us} {ys = vs} d k) = expressions.followed q us vs (runs MemberExpression q us d) (runs OptionalChain q vs k)
runs n p xs (optional_call {p = q} {xs = us} {ys = vs} d k) = expressions.followed q us vs (runs CallExpression q us d) (runs OptionalChain q vs k)
runs n p xs (optional_again {p = q} {xs = us} {ys = vs} d k) = expressions.followed q us vs (runs OptionalExpression q us d) (runs OptionalChain q vs k)
runs n p xs (chain_call {p = q} {xs = us} a b d) = literals.chain_behind q us a b (runs Arguments q us d)
runs n p xs (chain_index {p = q} {xs = us} a b c d k) = literals.chain_behind q (token kind.LBracket c ∷ us ++ token kind.RBracket d ∷ []) a b (expressions.index_behind q us c d (runs Expression (with_in q) us k))
runs n p xs (chain_name {p = q} w a b c) = literals.chain_name_behind q w a b c
runs n p xs (chain_private {p = q} w a b c d) = literals.chain_private_behind q w a b c d
runs n p xs (chain_more_call {p = q} {xs = us} {ys = vs} d k) = literals.both_behind q us vs (runs OptionalChain q us d) (runs Arguments q vs k)
runs n p xs (chain_more_index {p = q} {xs = us} {ys = vs} a b d k) = literals.both_behind q us (token kind.LBracket a ∷ vs ++ token kind.RBracket b ∷ []) (runs OptionalChain q us d) (expressions.index_behind q vs a b (runs Expression (with_in q) vs k))
runs n p xs (chain_more_name {p = q} {xs = us} w a b d) = literals.both_behind q us (token kind.Dot a ∷ token (kind.Word w) b ∷ []) (runs OptionalChain q us d) (expressions.name_behind q w a b)
runs n p xs (chain_more_private {p = q} {xs = us} w a b c d) = literals.both_behind q us (token kind.Dot a ∷ token kind.Hash b ∷ token (kind.Word w) c ∷ []) (runs OptionalChain q us d) (literals.private_behind q w a b c)
runs n p xs (left_optional {p = q} {xs = us} d) = runs OptionalExpression q us d
runs n p xs (unary_await {p = q} {xs = us} a h d) = literals.await_runs q us a h (runs UnaryExpression q us d)
runs n p xs (binary_private {p = q} {xs = us} w a b c h d) = literals.private_in_runs q us w a b c h (runs UnaryExpression q us d)
runs n p xs (yield_alone {p = q} a h) = literals.yield_alone_runs q a h
runs n p xs (yield_value {p = q} {xs = us} a h k d) = literals.yield_runs q us a h k (runs AssignmentExpression q us d)
runs n p xs (yield_from {p = q} {xs = us} a h d) = literals.yield_from_runs q us a h (runs AssignmentExpression q us d)
runs n p xs (arrow {p = q} {xs = us} {ys = vs} d k) = functions.arrow_runs q us vs (runs ArrowParameters q us d) (runs ConciseBody (in_arrow false q) vs k)
runs n p xs (arrow_name {p = q} w a h) = functions.operand_head q (token (kind.Word w) a ∷ []) (expressions.identifier_runs q w a h)
runs n p xs (arrow_none {p = q} a b) = functions.group_head q [] a b (functions.no_parameters_run (with_in q))
runs n p xs (arrow_list {p = q} {xs = us} a b d) = functions.group_head q us a b (functions.parameters_run (with_in q) us (literals.list_items (with_in q) us (runs Expression (with_in q) us d)))
runs n p xs (arrow_comma {p = q} {xs = us} a b c d) = functions.group_comma_head q us a b c (literals.list_items (with_in q) us (runs Expression (with_in q) us d))
runs n p xs (arrow_rest {p = q} {xs = us} a b d) = functions.group_head q us a b (functions.parameters_run (with_in q) us (runs BindingRest q us d))
runs n p xs (arrow_list_rest {p = q} {xs = us} {ys = vs} a b c d k) = functions.group_head q (us ++ token kind.Comma b ∷ vs) a c (functions.parameters_run (with_in q) (us ++ token kind.Comma b ∷ vs) (literals.more_item_runs (with_in q) us vs b (literals.list_items (with_in q) us (runs Expression (with_in q) us d)) (runs BindingRest q vs k)))
runs n p xs (concise_body {p = q} {xs = us} h d) = functions.expression_body q us h (runs AssignmentExpression q us d)
runs n p xs (function_body {p = q} {xs = us} a b d) = functions.braces_body q us a b (runs Body q us d)
runs n p xs (async_arrow {p = q} {xs = us} {ys = vs} d k) = functions.async_arrow_runs q us vs (runs AsyncArrowParameters q us d) (runs ConciseBody (in_arrow true q) vs k)
runs n p xs (async_name {p = q} w a h) = functions.async_one_head q w a h
runs n p xs (async_none {p = q} a b) = functions.async_group_head q [] a b (functions.no_parameters_run (with_in q))
runs n p xs (async_list {p = q} {xs = us} a b d) = functions.async_group_head q us a b (functions.parameters_run (with_in q) us (literals.list_items (with_in q) us (runs ArgumentList q us d)))
runs n p xs (async_comma {p = q} {xs = us} a b c d) = functions.async_comma_head q us a b c (literals.list_items (with_in q) us (runs ArgumentList q us d))
runs n p xs (rest_name {p = q} w a b h) = literals.spread_item_runs (with_in q) (token (kind.Word w) b ∷ []) a (expressions.operand_assigned (with_in q) (token (kind.Word w) b ∷ []) (expressions.identifier_runs (with_in q) w b h))
runs n p xs (rest_pattern {p = q} {xs = us} a d) = literals.spread_item_runs (with_in q) us a (expressions.operand_assigned (with_in q) us (literals.operand_within (without_in q) us (runs BindingPattern q us d).0))
runs n p xs (holes_pattern {p = q} {xs = us} a b d) = (literals.holes_runs (without_in q) us a b (runs Elision q us d), refl)
runs n p xs (holes_rest_pattern {p = q} {xs = us} {ys = vs} a b d k) = (literals.array_runs (without_in q) (us ++ vs) a b (literals.gap_item_runs (with_in q) us vs (runs Elision q us d) (runs BindingRest q vs k)), refl)
runs n p xs (array_pattern {p = q} {xs = us} a b d) = (literals.array_runs (without_in q) us a b (runs BindingElementList q us d), refl)
runs n p xs (array_pattern_holes {p = q} {xs = us} {ys = vs} a b c d k) = (literals.array_holes_runs (without_in q) us vs a b c (runs BindingElementList q us d) (runs Elision q vs k), refl)
runs n p xs (array_pattern_rest {p = q} {xs = us} {ys = vs} {zs = ws} a b c d k j) = (literals.array_runs (without_in q) (us ++ token kind.Comma b ∷ (vs ++ ws)) a c (literals.more_item_runs (with_in q) us (vs ++ ws) b (runs BindingElementList q us d) (literals.gap_item_runs (with_in q) vs ws (runs Elision q vs k) (runs BindingRest q ws j))), refl)
runs n p xs (pattern_element {p = q} {xs = us} d) = runs BindingElisionElement q us d
runs n p xs (more_pattern_elements {p = q} {xs = us} {ys = vs} a d k) = literals.more_item_runs (with_in q) us vs a (runs BindingElementList q us d) (runs BindingElisionElement q vs k)
runs n p xs (element_behind_holes {p = q} {xs = us} {ys = vs} d k) = literals.gap_item_runs (with_in q) us vs (runs Elision q us d) (literals.item_runs (with_in q) vs (runs BindingElement q vs k))
runs n p xs (element_name {p = q} w a h) = expressions.operand_assigned (with_in q) (token (kind.Word w) a ∷ []) (expressions.identifier_runs (with_in q) w a h)
runs n p xs (element_name_value {p = q} {xs = us} w a b h d) = expressions.assignment_runs (with_in q) (token (kind.Word w) a ∷ []) us assigning.Assign b (expressions.identifier_runs (with_in q) w a h) (runs AssignmentExpression (with_in q) us d)
runs n p xs (element_pattern {p = q} {xs = us} d) = expressions.operand_assigned (with_in q) us (literals.operand_within (without_in q) us (runs BindingPattern q us d).0)
runs n p xs (element_pattern_value {p = q} {xs = us} {ys = vs} a d k) = expressions.assignment_runs (with_in q) us vs assigning.Assign a (literals.operand_within (without_in q) us (runs BindingPattern q us d).0) (runs AssignmentExpression (with_in q) vs k)
runs n p xs (no_parameters {p = q}) = functions.no_parameters_run (with_in q)
runs n p xs (rest_parameter {p = q} {xs = us} d) = functions.parameters_run (with_in q) us (runs BindingRest q us d)
runs n p xs (parameters {p = q} {xs = us} d) = functions.parameters_run (with_in q) us (runs FormalParameterList q us d)
runs n p xs (parameters_comma {p = q} {xs = us} a d) = functions.parameters_comma_run (with_in q) us a (runs FormalParameterList q us d)
runs n p xs (parameters_rest {p = q} {xs = us} {ys = vs} a d k) = functions.parameters_run (with_in q) (us ++ token kind.Comma a ∷ vs) (literals.more_item_runs (with_in q) us vs a (runs FormalParameterList q us d) (runs BindingRest q vs k))
runs n p xs (parameter {p = q} {xs = us} d) = literals.item_runs (with_in q) us (runs BindingElement q us d)
runs n p xs (more_parameters {p = q} {xs = us} {ys = vs} a d k) = literals.more_item_runs (with_in q) us vs a (runs FormalParameterList q us d) (literals.item_runs (with_in q) vs (runs BindingElement q vs k))
runs n p xs (parameters_and_body {p = q} {xs = us} {ys = vs} a b c d k j) = functions.parameters_and_body_run q us vs a b c d (runs FormalParameters q us k) (runs Body q vs j)
runs n p xs (empty_object {p = q} a b) = members.empty_object_runs q a b
runs n p xs (object {p = q} {xs = us} a b d) = members.object_runs q us a b (runs PropertyDefinitionList q us d)
runs n p xs (object_comma {p = q} {xs = us} a b c d) = members.object_comma_runs q us a b c (runs PropertyDefinitionList q us d)
runs n p xs (property {p = q} {xs = us} d) = runs PropertyDefinition q us d
runs n p xs (more_properties {p = q} {xs = us} {ys = vs} a d k) = members.more_property_runs q us vs a (runs PropertyDefinitionList q us d) (runs PropertyDefinition q vs k)
runs n p xs (property_reference {p = q} w a h) = members.property_reference_runs q w a h
runs n p xs (property_initialized {p = q} {xs = us} w a b h d) = members.property_initialized_runs q us w a b h (runs AssignmentExpression (with_in q) us d)
runs n p xs (property_value {p = q} {xs = us} {ys = vs} a d k) = members.property_value_runs q us vs a (runs PropertyName q us d) (runs AssignmentExpression (with_in q) vs k)
runs n p xs (property_method {p = q} {xs = us} d) = members.property_member q us (runs MethodDefinition q us d)
runs n p xs (property_spread {p = q} {xs = us} a d) = members.property_spread_runs q us a (runs AssignmentExpression (with_in q) us d)
runs n p xs (literal_name {p = q} t a h) = members.literal_name_runs q t a h
runs n p xs (computed_name {p = q} {xs = us} a b d) = members.computed_name_runs q us a b (runs AssignmentExpression (with_in q) us d)
runs n p xs (element_property_name {p = q} {xs = us} d) = runs PropertyName q us d
runs n p xs (element_private_name {p = q} w a b) = members.private_name_runs q w a b
runs n p xs (method {p = q} {xs = us} {ys = vs} d k) = members.method_runs q us vs (runs ClassElementName q us d) (runs ParametersAndBody (in_function false false) vs k)
runs n p xs (generator_method {p = q} {xs = us} {ys = vs} a d k) = members.generator_method_runs q us vs a (runs ClassElementName q us d) (runs ParametersAndBody (in_function true false) vs k)
runs n p xs (async_method {p = q} {xs = us} {ys = vs} a h d k) = members.async_method_runs q us vs a h (runs ClassElementName q us d) (runs ParametersAndBody (in_function false true) vs k)
runs n p xs (async_generator_method {p = q} {xs = us} {ys = vs} a d k) = members.async_generator_method_runs q us vs a (runs ClassElementName q us d) (runs ParametersAndBody (in_function true true) vs k)
runs n p xs (accessor {p = q} {xs = us} {ys = vs} t a h d k) = members.accessor_runs q us vs t a h (runs ClassElementName q us d) (runs ParametersAndBody (in_function false false) vs k)
runs n p xs (class_expression {p = q} name us a h d) = members.class_expression_runs q name us a h (runs ClassTail q us d)
runs n p xs (class_plain {p = q} {xs = us} a b d) = members.class_plain_runs q us a b (runs ClassElementList q us d)
runs n p xs (class_extends {p = q} {xs = us} {ys = vs} a b c d k) = members.class_extends_runs q us vs a b c (runs LeftHandSideExpression q us d) (runs ClassElementList q vs k)
runs n p xs (no_elements {p = q}) = members.no_elements_run q
runs n p xs (more_class_elements {p = q} {xs = us} {ys = vs} d k) = members.more_elements_run q us vs (runs ClassElementList q us d) (runs ClassElement q vs k)
runs n p xs (class_method {p = q} {xs = us} d) = members.class_method_runs q us (runs MethodDefinition q us d)
runs n p xs (class_field {p = q} {xs = us} a d) = members.class_field_runs q us a (runs ClassElementName q us d)
runs n p xs (class_field_value {p = q} {xs = us} {ys = vs} a b d k) = members.class_field_value_runs q us vs a b (runs ClassElementName q us d) (runs AssignmentExpression (with_in q) vs k)
runs n p xs (class_member {p = q} {xs = us} d) = runs ClassMember q us d
runs n p xs (static_member {p = q} {xs = us} a d) = members.static_element_runs q us a (runs ClassMember q us d)
runs n p xs (static_block {p = q} {xs = us} a b c d) = members.static_block_runs q us a b c (runs Body (in_function false true) us d)
runs n p xs (class_semicolon {p = q} a) = members.class_semicolon_runs q a
runs n p xs (empty_pattern {p = q} a b) = (members.empty_object_runs (without_in q) a b, refl)
runs n p xs (object_pattern {p = q} {xs = us} a b d) = (members.object_runs (without_in q) us a b (members.properties_without q us (runs BindingPropertyList q us d)), refl)
runs n p xs (object_pattern_comma {p = q} {xs = us} a b c d) = (members.object_comma_runs (without_in q) us a b c (members.properties_without q us (runs BindingPropertyList q us d)), refl)
runs n p xs (rest_object_pattern {p = q} w a b c d h) = (members.object_runs (without_in q) (token kind.DotDotDot b ∷ token (kind.Word w) c ∷ []) a d (members.properties_without q (token kind.DotDotDot b ∷ token (kind.Word w) c ∷ []) (members.property_spread_runs q (token (kind.Word w) c ∷ []) b (expressions.operand_assigned (with_in q) (token (kind.Word w) c ∷ []) (expressions.identifier_runs (with_in q) w c h)))), refl)
runs n p xs (object_pattern_rest {p = q} {xs = us} w a b c d k h j) = (members.object_runs (without_in q) (us ++ token kind.Comma b ∷ token kind.DotDotDot c ∷ token (kind.Word w) d ∷ []) a k (members.properties_without q (us ++ token kind.Comma b ∷ token kind.DotDotDot c ∷ token (kind.Word w) d ∷ []) (members.more_property_runs q us (token kind.DotDotDot c ∷ token (kind.Word w) d ∷ []) b (runs BindingPropertyList q us j) (members.property_spread_runs q (token (kind.Word w) d ∷ []) c (expressions.operand_assigned (with_in q) (token (kind.Word w) d ∷ []) (expressions.identifier_runs (with_in q) w d h))))), refl)
runs n p xs (binding_property {p = q} {xs = us} d) = runs BindingProperty q us d
runs n p xs (more_binding_properties {p = q} {xs = us} {ys = vs} a d k) = members.more_property_runs q us vs a (runs BindingPropertyList q us d) (runs BindingProperty q vs k)
runs n p xs (binding_name {p = q} w a h) = members.property_reference_runs q w a h
runs n p xs (binding_name_value {p = q} {xs = us} w a b h d) = members.property_initialized_runs q us w a b h (runs AssignmentExpression (with_in q) us d)
runs n p xs (binding_member {p = q} {xs = us} {ys = vs} a d k) = members.property_value_runs q us vs a (runs PropertyName q us d) (runs BindingElement q vs k)
runs n p xs (target_name {p = q} w a h) = declarations.target_name_runs q w a h
runs n p xs (target_pattern {p = q} {xs = us} k) = let r = runs BindingPattern q us k in declarations.target_pattern_runs q us r.0 r.1
runs n p xs (variable_name {p = q} w a h) = declarations.variable_name_runs q w a h
runs n p xs (variable_value {p = q} {xs = us} {ys = vs} a k j) = declarations.variable_value_runs q us vs a (runs BindingTarget q us k).1 (runs AssignmentExpression q vs j)
runs n p xs (variable {p = q} {xs = us} k) = runs VariableDeclaration q us k
runs n p xs (more_variables {p = q} {xs = us} {ys = vs} a k j) = declarations.more_variable_runs q us vs a (runs VariableDeclarationList q us k) (runs VariableDeclaration q vs j)
runs n p xs (lexical_declaration {p = q} {xs = us} w a b h k) = (declarations.lexical_run q us w a b h (runs VariableDeclarationList (with_in q) us k), declarations.lexical_exports (us ++ token kind.Semi b ∷ []) w a h)
runs n p xs (function_declaration {p = q} w us g a b c h k) = (declarations.function_declaration_run q w us g a b c h (runs ParametersAndBody (in_function g false) us k), refl)
runs n p xs (async_function_declaration {p = q} w us g a b c h k) = (declarations.async_function_declaration_run q w us g a b c h (runs ParametersAndBody (in_function g true) us k), refl)
runs n p xs (class_declaration {p = q} {xs = us} w a b h k) = (declarations.class_declaration_run q us w a b h (runs ClassTail q us k), refl)
runs n p xs (block {p = q} {xs = us} a b k) = (blocks.block_runs q us a b (runs Body q us k), refl)
runs n p xs (block_statement {p = q} {xs = us} k) = (runs Block q us k).0
runs n p xs (empty_statement {p = q} a) = blocks.empty_runs q a
runs n p xs (expression_statement {p = q} {xs = us} a h k) = blocks.expression_statement_runs q us a h (runs Expression (with_in q) us k)
runs n p xs (variable_statement {p = q} {xs = us} a b k) = declarations.variables_run q us keyword.Var a b refl (runs VariableDeclarationList (with_in q) us k)
runs n p xs (if_statement {p = q} {xs = us} {ys = vs} a b c k j) = controls.control_run q us vs keyword.If a b c refl (runs Expression (with_in q) us k) (runs Statement q vs j)
runs n p xs (if_else {p = q} {xs = us} {ys = vs} {zs = ws} a b c e k j i) = controls.control_run q us (vs ++ reserved keyword.Else e ∷ ws) keyword.If a b c refl (runs Expression (with_in q) us k) (blocks.both_run q vs (reserved keyword.Else e ∷ ws) (runs Statement q vs j) (controls.before_run q ws keyword.Else e refl (runs Statement q ws i)))
runs n p xs (with_statement {p = q} {xs = us} {ys = vs} a b c k j) = controls.control_run q us vs keyword.With a b c refl (runs Expression (with_in q) us k) (runs Statement q vs j)
runs n p xs (do_while {p = q} {xs = us} {ys = vs} a b c e f k j) = controls.before_run q (us ++ (reserved keyword.While b ∷ in_parens c e vs ++ token kind.Semi f ∷ [])) keyword.Do a refl (blocks.both_run q us (reserved keyword.While b ∷ in_parens c e vs ++ token kind.Semi f ∷ []) (runs Statement q us k) (controls.control_run q vs (token kind.Semi f ∷ []) keyword.While b c e refl (runs Expression (with_in q) vs j) (blocks.empty_runs q f)))
runs n p xs (while_statement {p = q} {xs = us} {ys = vs} a b c k j) = controls.control_run q us vs keyword.While a b c refl (runs Expression (with_in q) us k) (runs Statement q vs j)
runs n p xs (for_statement {p = q} {xs = us} {ys = vs} a b c k j) = controls.for_run q us vs a b c (runs ForHead q us k) (runs Statement q vs j)
runs n p xs (for_await {p = q} {xs = us} {ys = vs} a b c e h k j) = controls.for_await_run q us vs a b c e (runs ForOfHead q us k) (runs Statement q vs j)
runs n p xs (no_test {p = q}) = controls.no_test_runs q
runs n p xs (test {p = q} {xs = us} k) = controls.test_runs q us (runs Expression q us k)
runs n p xs (for_expressions {p = q} {xs = us} {ys = vs} {zs = ws} a b k j i) = controls.for_expressions_runs q us vs ws a b (runs OptionalTest (without_in q) us k) (runs OptionalTest (with_in q) vs j) (runs OptionalTest (with_in q) ws i)
runs n p xs (for_variables {p = q} {xs = us} {ys = vs} {zs = ws} w a b c h k j i) = controls.for_variables_runs q us vs ws w a b c h (runs VariableDeclarationList (without_in q) us k) (runs OptionalTest (with_in q) vs j) (runs OptionalTest (with_in q) ws i)
runs n p xs (for_in {p = q} {xs = us} {ys = vs} a k j) = controls.for_in_runs q us vs a (runs LeftHandSideExpression q us k) (runs Expression (with_in q) vs j)
runs n p xs (for_variable_in {p = q} {xs = us} {ys = vs} w a b h k j) = controls.for_variable_in_runs q us vs w a b h (runs BindingTarget q us k).1 (runs Expression (with_in q) vs j)
runs n p xs (for_of_head {p = q} {xs = us} k) = runs ForOfHead q us k
runs n p xs (for_of {p = q} {xs = us} {ys = vs} a k j) = controls.for_of_runs q us vs a (runs LeftHandSideExpression q us k) (runs AssignmentExpression (with_in q) vs j)
runs n p xs (for_variable_of {p = q} {xs = us} {ys = vs} w a b h k j) = controls.for_variable_of_runs q us vs w a b h (runs BindingTarget q us k).1 (runs AssignmentExpression (with_in q) vs j)
runs n p xs (continue_statement {p = q} a b) = controls.leave_run q keyword.Continue a b refl
runs n p xs (continue_label {p = q} w a b h) = controls.leave_label_run q w keyword.Continue a b h refl
runs n p xs (break_statement {p = q} a b) = controls.leave_run q keyword.Break a b refl
runs n p xs (break_label {p = q} w a b h) = controls.leave_label_run q w keyword.Break a b h refl
runs n p xs (return_statement {p = q} a b) = controls.return_run q a b
runs n p xs (return_value {p = q} {xs = us} a b h k) = controls.return_value_run q us keyword.Return a b refl h (runs Expression (with_in q) us k)
runs n p xs (throw_statement {p = q} {xs = us} a b h k) = controls.return_value_run q us keyword.Throw a b refl h (runs Expression (with_in q) us k)
runs n p xs (switch_statement {p = q} {xs = us} {ys = vs} a b c e f k j) = controls.control_run q us (token kind.LBrace e ∷ vs ++ token kind.RBrace f ∷ []) keyword.Switch a b c refl (runs Expression (with_in q) us k) (blocks.block_runs q vs e f (bodies.whole_inside q vs (runs CaseClauses q vs j)))
runs n p xs (switch_default {p = q} {xs = us} {ys = vs} {zs = ws} {ws = ts} a b c e f g h k j i l) = controls.control_run q us (token kind.LBrace e ∷ (vs ++ (reserved keyword.Default_ f ∷ token kind.Colon g ∷ ws ++ ts)) ++ token kind.RBrace h ∷ []) keyword.Switch a b c refl (runs Expression (with_in q) us k) (blocks.block_runs q (vs ++ (reserved keyword.Default_ f ∷ token kind.Colon g ∷ ws ++ ts)) e h (bodies.whole_inside q (vs ++ (reserved keyword.Default_ f ∷ token kind.Colon g ∷ ws ++ ts)) (blocks.both_run q vs (reserved keyword.Default_ f ∷ token kind.Colon g ∷ ws ++ ts) (runs CaseClauses q vs j) (controls.default_run q (ws ++ ts) f g (blocks.both_run q ws ts (runs StatementList q ws i) (runs CaseClauses q ts l))))))
runs n p xs (no_clauses {p = q}) = blocks.none_run q
runs n p xs (more_clauses {p = q} {xs = us} {ys = vs} {zs = ws} a b k j i) = blocks.both_run q us (reserved keyword.Case a ∷ vs ++ token kind.Colon b ∷ ws) (runs CaseClauses q us k) (controls.case_run q vs ws a b (runs Expression (with_in q) vs j) (runs StatementList q ws i))
runs n p xs (labelled {p = q} {xs = us} w a b h k) = controls.labelled_run q us w a b h (runs Statement q us k)
runs n p xs (labelled_function {p = q} {xs = us} w v a b c e h i k) = controls.labelled_run q (reserved keyword.Function c ∷ token (kind.Word v) e ∷ us) w a b h (declarations.function_declaration_run q v us false c false e i (runs ParametersAndBody (in_function false false) us k))
runs n p xs (try_catch {p = q} {xs = us} {ys = vs} a k j) = controls.before_run q (us ++ vs) keyword.Try a refl (blocks.both_run q us vs (runs Block q us k).0 (runs Catch q vs j))
runs n p xs (try_finally {p = q} {xs = us} {ys = vs} a k j) = controls.before_run q (us ++ vs) keyword.Try a refl (blocks.both_run q us vs (runs Block q us k).0 (runs Finally q vs j))
runs n p xs (try_catch_finally {p = q} {xs = us} {ys = vs} {zs = ws} a k j i) = controls.before_run q (us ++ (vs ++ ws)) keyword.Try a refl (blocks.both_run q us (vs ++ ws) (runs Block q us k).0 (blocks.both_run q vs ws (runs Catch q vs j) (runs Finally q ws i)))
runs n p xs (catch_block {p = q} {xs = us} a k) = let r = runs Block q us k in controls.catch_block_run q us a r.1 r.0
runs n p xs (catch_parameter {p = q} {xs = us} {ys = vs} a b c k j) = controls.catch_parameter_run q us vs a b c (runs BindingTarget q us k).0 (runs Block q vs j).0
runs n p xs (finally {p = q} {xs = us} a k) = controls.before_run q us keyword.Finally a refl (runs Block q us k).0
runs n p xs (debugger {p = q} a b) = controls.before_run q (token kind.Semi b ∷ []) keyword.Debugger a refl (blocks.empty_runs q b)
runs n p xs (item_statement {p = q} {xs = us} k) = runs Statement q us k
runs n p xs (item_declaration {p = q} {xs = us} k) = (runs Declaration q us k).0
runs n p xs (no_statements {p = q}) = blocks.none_run q
runs n p xs (more_statements {p = q} {xs = us} {ys = vs} k j) = blocks.both_run q us vs (runs StatementList q us k) (runs StatementListItem q vs j)
runs n p xs (body {p = q} {xs = us} k) = bodies.whole_inside q us (runs StatementList q us k)
runs n p xs (body_open {p = q} {xs = us} k) = runs OpenList q us k
runs n p xs (line_end {p = q} {xs = us} {ys = vs} k j h) = bodies.line_end_runs q us vs (runs OpenList q us k) (runs StatementListItem q vs j) h
runs n p xs (open_list {p = q} {xs = us} {ys = vs} k j) = bodies.open_inside q us vs (runs StatementList q us k) (runs OpenStatement q vs j)
runs n p xs (open_lexical {p = q} {xs = us} {ys = vs} w a h k j) = bodies.open_inside q us (reserved w a ∷ vs) (runs StatementList q us k) (bodies.open_lexical_runs q vs w a h (runs VariableDeclarationList (with_in q) vs j))
runs n p xs (open_line {p = q} {xs = us} {ys = vs} k j h) = bodies.open_line_runs q us vs (runs OpenList q us k) (runs OpenStatement q vs j) h
runs n p xs (open_lexical_line {p = q} {xs = us} {ys = vs} w h k j) = bodies.open_lexical_line_runs q us vs w h (runs OpenList q us k) (runs VariableDeclarationList (with_in q) vs j)
runs n p xs (open_expression {p = q} {xs = us} h k) = bodies.open_expression_runs q us h (runs Expression (with_in q) us k)
runs n p xs (open_variables {p = q} {xs = us} a k) = bodies.open_variables_runs q us keyword.Var a refl (runs VariableDeclarationList (with_in q) us k)
runs n p xs (open_if {p = q} {xs = us} {ys = vs} a b c k j) = bodies.open_control_runs q us vs keyword.If a b c refl (runs Expression (with_in q) us k) (runs OpenStatement q vs j)
runs n p xs (open_else {p = q} {xs = us} {ys = vs} {zs = ws} a b c e k j i) = bodies.open_control_runs q us (vs ++ reserved keyword.Else e ∷ ws) keyword.If a b c refl (runs Expression (with_in q) us k) (bodies.open_inside q vs (reserved keyword.Else e ∷ ws) (runs Statement q vs j) (bodies.open_before_runs q ws keyword.Else e refl (runs OpenStatement q ws i)))
runs n p xs (open_with {p = q} {xs = us} {ys = vs} a b c k j) = bodies.open_control_runs q us vs keyword.With a b c refl (runs Expression (with_in q) us k) (runs OpenStatement q vs j)
runs n p xs (open_do {p = q} {xs = us} {ys = vs} a b c e k j) = bodies.whole_inside q (reserved keyword.Do a ∷ (us ++ (reserved keyword.While b ∷ in_parens c e vs))) (controls.before_run q (us ++ (reserved keyword.While b ∷ in_parens c e vs)) keyword.Do a refl (blocks.both_run q us (reserved keyword.While b ∷ in_parens c e vs) (runs Statement q us k) (controls.head_run q vs keyword.While b c e refl (runs Expression (with_in q) vs j))))
runs n p xs (open_while {p = q} {xs = us} {ys = vs} a b c k j) = bodies.open_control_runs q us vs keyword.While a b c refl (runs Expression (with_in q) us k) (runs OpenStatement q vs j)
runs n p xs (open_for {p = q} {xs = us} {ys = vs} a b c k j) = bodies.open_for_runs q us vs a b c (runs ForHead q us k) (runs OpenStatement q vs j)
runs n p xs (open_for_await {p = q} {xs = us} {ys = vs} a b c e h k j) = bodies.open_for_await_runs q us vs a b c e (runs ForOfHead q us k) (runs OpenStatement q vs j)
runs n p xs (open_continue {p = q} a) = bodies.open_leave_runs q keyword.Continue a refl
runs n p xs (open_continue_label {p = q} w a h) = bodies.open_leave_label_runs q w keyword.Continue a h refl
runs n p xs (open_break {p = q} a) = bodies.open_leave_runs q keyword.Break a refl
runs n p xs (open_break_label {p = q} w a h) = bodies.open_leave_label_runs q w keyword.Break a h refl
runs n p xs (open_return {p = q} a) = bodies.open_return_runs q a
runs n p xs (open_return_value {p = q} {xs = us} a h k) = bodies.open_return_value_runs q us keyword.Return a refl h (runs Expression (with_in q) us k)
runs n p xs (open_throw {p = q} {xs = us} a h k) = bodies.open_return_value_runs q us keyword.Throw a refl h (runs Expression (with_in q) us k)
runs n p xs (open_labelled {p = q} {xs = us} w a b h k) = bodies.open_labelled_runs q us w a b h (runs OpenStatement q us k)
runs n p xs (open_debugger {p = q} a) = bodies.open_debugger_runs q a
runs n p xs (specifier {p = q} t a h) = modules.specifier_runs t a h
runs n p xs (renamed {p = q} t u a b c h i) = modules.renamed_runs t u a b c h i
runs n p xs (more_specifiers {p = q} {xs = us} {ys = vs} a k j) = modules.more_words_run us vs a (runs SpecifierList q us k) (runs SpecifierList q vs j)
runs n p xs (no_specifiers {p = q} a b) = modules.no_specifiers_run a b
runs n p xs (specifiers {p = q} {xs = us} a b k) = modules.specifiers_run us a b (runs SpecifierList q us k)
runs n p xs (specifiers_comma {p = q} {xs = us} a b c k) = modules.specifiers_comma_run us a b c (runs SpecifierList q us k)
runs n p xs (module_end {p = q} a) = modules.module_end_runs a
runs n p xs (module_end_none {p = q} a b c d) = modules.module_end_none_runs a b c d
runs n p xs (module_end_with {p = q} {xs = us} a b c d k) = modules.module_end_with_runs us a b c d (runs AttributeList q us k)
runs n p xs (module_end_comma {p = q} {xs = us} a b c d f k) = modules.module_end_comma_runs us a b c d f (runs AttributeList q us k)
runs n p xs (attribute {p = q} t a b c h) = modules.attribute_runs t a b c h
runs n p xs (more_attributes {p = q} {xs = us} {ys = vs} a k j) = modules.more_words_run us vs a (runs AttributeList q us k) (runs AttributeList q vs j)
runs n p xs (import_default {p = q} w a h) = modules.import_default_runs w a
runs n p xs (import_namespace {p = q} w a b c h) = modules.import_namespace_runs w a b c
runs n p xs (import_named {p = q} {xs = us} k) = modules.import_named_runs us (runs NamedSpecifiers q us k)
runs n p xs (import_default_namespace {p = q} w v a b c d f h i) = modules.import_default_namespace_runs w v a b c d f
runs n p xs (import_default_named {p = q} {xs = us} w a b h k) = modules.import_default_named_runs us w a b (runs NamedSpecifiers q us k)
runs n p xs (import_from {p = q} {xs = us} {ys = vs} a b c k j) = modules.import_from_runs q us vs a b c (runs ImportClause q us k) (runs ModuleEnd q vs j)
runs n p xs (import_module {p = q} {xs = us} a b k) = modules.import_module_runs q us a b (runs ModuleEnd q us k)
runs n p xs (export_all {p = q} {xs = us} a b c d k) = modules.export_all_runs q us a b c d (runs ModuleEnd q us k)
runs n p xs (export_all_as {p = q} {xs = us} name a b c d f g h k) = modules.export_all_as_runs q us name a b c d f g h (runs ModuleEnd q us k)
runs n p xs (export_from {p = q} {xs = us} {ys = vs} a b c k j) = modules.export_from_runs q us vs a b c (runs NamedSpecifiers q us k) (runs ModuleEnd q vs j)
runs n p xs (export_named {p = q} {xs = us} a b k) = modules.export_named_runs q us a b (runs NamedSpecifiers q us k)
runs n p xs (export_variables {p = q} {xs = us} a b c k) = modules.export_declaration_runs q (reserved keyword.Var b ∷ (us ++ token kind.Semi c ∷ [])) a refl (declarations.variables_run q us keyword.Var b c refl (runs VariableDeclarationList (with_in q) us k))
runs n p xs (export_declaration {p = q} {xs = us} a k) = let r = runs Declaration q us k in modules.export_declaration_runs q us a r.1 r.0
runs n p xs (export_default_function {p = q} name us g a b c d h k) = modules.export_default_function_runs q name us g a b c d h (runs ParametersAndBody (in_function g false) us k)
runs n p xs (export_default_async {p = q} name us g a b c d h k) = modules.export_default_async_runs q name us g a b c d h (runs ParametersAndBody (in_function g true) us k)
runs n p xs (export_default_class {p = q} name us a b c h k) = modules.export_default_class_runs q name us a b c h (runs ClassTail q us k)
runs n p xs (export_default {p = q} {xs = us} a b c h k) = modules.export_default_runs q us a b c h (runs AssignmentExpression (with_in q) us k)
runs n p xs (module_statements {p = q} {xs = us} k) = modules.statement_item q us (runs StatementList q us k)
runs n p xs (no_items {p = q}) = modules.no_items_run q
runs n p xs (more_items {p = q} {xs = us} {ys = vs} k j) = modules.more_items_run q us vs (runs ModuleItemList q us k) (runs ModuleItem q vs j)

-- the roles of a run
right_roles : (t : TrackView) (tokens : List Token) → Right t tokens → RolesAreRight t tokens
unfolding Right
right_roles t tokens right [] after x is_assign role is role_is = let r : Right t (x ∷ after) = subst (Right t) is right in r.0 is_assign role role_is
right_roles t [] right (b ∷ before) after x is_assign role is role_is = absurd (nil-cons b (before ++ x ∷ after) is)
right_roles t (y ∷ ys) right (b ∷ before) after x is_assign role is role_is =
    let same = cons-same y b ys (before ++ x ∷ after) is in
    let rest = right_roles (stepped t (part y)) ys right.1 before after x is_assign role same.1 role_is in
    subst (λ z. expects_operand (tracked (stepped t (part z)) (parts before)) is_assign ≡ begins_operand role) same.0 rest

-- the start of a derivation
started : (p : Parameters) (t : TrackView) → Begins p t → t ≡ track state.Statement (nested t.nest.frames (around_of p) t.nest.pending) false
started p t b = go t.state t.nest.around t.typescript b.begins b.around b.javascript
  where
    go : (u : State) (a : Around) (ts : Bool) → u ≡ state.Statement → a ≡ around_of p → ts ≡ false → track u (nested t.nest.frames a t.nest.pending) ts ≡ track state.Statement (nested t.nest.frames (around_of p) t.nest.pending) false
    go u a ts is around javascript = rw is (rw around (rw javascript refl))

continued : (p : Parameters) (tokens : List Token) (t : TrackView) → Derives StatementList p tokens → Begins p t → Continues t.nest.frames (around_of p) t.nest.pending tokens
continued p tokens t d b = (runs StatementList p tokens d).runs t.nest.frames t.nest.pending b.over

pub roles_right : (p : Parameters) (tokens : List Token) (t : TrackView) → Derives Body p tokens → Begins p t → RolesAreRight t tokens
roles_right p tokens t d b = right_roles t tokens (subst (λ u. Right u tokens) (sym (started p t b)) ((runs Body p tokens d).runs t.nest.frames t.nest.pending b.over).run.right)

pub statements_end : (p : Parameters) (tokens : List Token) (t : TrackView) → Derives StatementList p tokens → Begins p t → EndsStatements t (tracked t (parts tokens))
statements_end p tokens t d b =
    let c = continued p tokens t d b in
    let last : tracked t (parts tokens) ≡ track state.Statement (nested t.nest.frames (around_of p) c.pend) false = subst (λ u. tracked u (parts tokens) ≡ track state.Statement (nested t.nest.frames (around_of p) c.pend) false) (sym (started p t b)) c.run.ends in
    record { begins = ap (λ u. u.state) last; frames = ap (λ u. u.nest.frames) last; around = ap (λ u. u.nest.around) last ∙ sym b.around }

-- one role
same-role : (r s : Role) → begins_operand r ≡ begins_operand s → r ≡ s
same-role r s h = grind (arith, h)

pub one_role : (p : Parameters) (before xs ys : List Token) (x y : Token) (is_assign : Bool) (r s : Role) → Derives Body p (before ++ x ∷ xs) → Derives Body p (before ++ y ∷ ys) → role_of x.kind is_assign ≡ Some r → role_of y.kind is_assign ≡ Some s → r ≡ s
one_role p before xs ys x y w r q d f hr hq =
    let t = track state.Statement (nested [] (around_of p) no_function) false in
    let b : Begins p t = record { begins = refl; over = refl; around = refl; javascript = refl } in
    same-role r q (sym (roles_right p (before ++ x ∷ xs) t d b before xs x w r refl hr) ∙ roles_right p (before ++ y ∷ ys) t f b before ys y w q refl hq)

-- expressions

marks-rest : (p : Parameters) (fs : List Frame) (a : Around) → over_kinds kinds.Marks (top_of fs) ≡ false → a ≡ around_of p → Rests p fs a Bare
marks-rest p fs a h is = record { calm = calm (top_of fs) h; lone = λ u. lone (top_of fs) u h; plain = λ s. plain (top_of fs) s h; no_arrow = λ n. no-arrow (top_of fs) n h; declared = λ _. declared (top_of fs) (under_of fs) h; around = is }
  where
    calm : (o : Option FrameKind) → over_kinds kinds.Marks o ≡ false → over_candidate o ≡ false
    calm o h = grind (arith, h)

    lone : (o u : Option FrameKind) → over_kinds kinds.Marks o ≡ false → candidate_from 0 o u ≡ None
    lone o u h = grind (arith, h)

    plain : (o : Option FrameKind) (s : State) → over_kinds kinds.Marks o ≡ false → decorating o s ≡ s
    plain o s h = grind (arith, h)

    no-arrow : (o : Option FrameKind) (n : Nested) → over_kinds kinds.Marks o ≡ false → arrow_over o n ≡ pushed frame.Arrow n
    no-arrow o n h = grind (arith, h)

    declared : (o u : Option FrameKind) → over_kinds kinds.Marks o ≡ false → over_declared_for o u ≡ false
    declared o u h = grind (arith, h)

expected : (p : Parameters) (t : TrackView) → Expects p t → t ≡ track state.Operand (nested t.nest.frames (around_of p) t.nest.pending) false
expected p t b = go t.state t.nest.around t.typescript b.begins b.around b.javascript
  where
    go : (u : State) (a : Around) (ts : Bool) → u ≡ state.Operand → a ≡ around_of p → ts ≡ false → track u (nested t.nest.frames a t.nest.pending) ts ≡ track state.Operand (nested t.nest.frames (around_of p) t.nest.pending) false
    go u a ts is around javascript = rw is (rw around (rw javascript refl))

assigned : (p : Parameters) (tokens : List Token) (t : TrackView) → Derives AssignmentExpression p tokens → Expects p t → Ends AtOperand t.nest.frames (around_of p) Bare t.nest.pending tokens
assigned p tokens t d b = (runs AssignmentExpression p tokens d).runs AtOperand t.nest.frames (around_of p) Bare t.nest.pending (marks-rest p t.nest.frames (around_of p) b.over refl) refl

pub expression_roles : (p : Parameters) (tokens : List Token) (t : TrackView) → Derives AssignmentExpression p tokens → Expects p t → RolesAreRight t tokens
expression_roles p tokens t d b = right_roles t tokens (subst (λ u. Right u tokens) (sym (expected p t b)) (assigned p tokens t d b).run.right)

it-ends : (e : Ended) → is_label_end e ≡ false → ends_expression (ended_state e) ≡ true
it-ends (Whole Plain) h = refl
it-ends (Whole Postfix) h = refl
it-ends (Whole Grouped) h = refl
it-ends (Whole c) h = absurd cc
it-ends Braces h = refl
it-ends Yielding h = refl

gone-marks : (fs : List Frame) (a : Around) (m : Over) (pend : Around) → over_kinds kinds.Marks (top_of fs) ≡ false → dropped kinds.Marks (over fs a m pend) ≡ nested fs a pend
unfolding dropped_from
gone-marks fs a Bare pend h = dropped_none kinds.Marks (nested fs a pend) h
gone-marks fs a (Concise b) pend h = dropped_none kinds.Marks (nested fs a pend) h

pub expressions_end : (p : Parameters) (tokens : List Token) (t : TrackView) → Derives AssignmentExpression p tokens → Expects p t → EndsExpression t (tracked t (parts tokens))
expressions_end p tokens t d b =
    let r = assigned p tokens t d b in
    let n = over t.nest.frames (around_of p) r.mark r.pend in
    let last : tracked t (parts tokens) ≡ ended r.state n = subst (λ u. tracked u (parts tokens) ≡ ended r.state n) (sym (expected p t b)) r.run.ends in
    let gone = gone-marks t.nest.frames (around_of p) r.mark r.pend b.over in
    let there : EndsExpression t (ended r.state n) = record { ends = it-ends r.state (r.label refl); frames = ap (λ m. m.frames) gone; around = ap (λ m. m.around) gone ∙ sym b.around } in
    subst (EndsExpression t) (sym last) there

-- modules

module-run : (tokens : List Token) → Derives ModuleItemList module_code tokens → TopEnds (first false true) (around_of module_code) tokens
module-run tokens d = (runs ModuleItemList module_code tokens d).runs no_function refl

pub module_roles : (tokens : List Token) → Derives ModuleItemList module_code tokens → RolesAreRight (first false true) tokens
module_roles tokens d = right_roles (first false true) tokens (module-run tokens d).run.right

pub modules_one_role : (before xs ys : List Token) (x y : Token) (is_assign : Bool) (r s : Role) → Derives ModuleItemList module_code (before ++ x ∷ xs) → Derives ModuleItemList module_code (before ++ y ∷ ys) → role_of x.kind is_assign ≡ Some r → role_of y.kind is_assign ≡ Some s → r ≡ s
modules_one_role before xs ys x y w r q d f hr hq = same-role r q (sym (module_roles (before ++ x ∷ xs) d before xs x w r refl hr) ∙ module_roles (before ++ y ∷ ys) f before ys y w q refl hq)
