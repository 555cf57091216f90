-- Derivations of some programs, and programs that have none
use Rattle.std.proofs.Common.{◌≡◌, ◌∙◌, ◌++◌, sym, true, false, List, [], ◌∷◌, refl}
use Rattle.ecma_word.specs.declared.keyword.Keyword.TheVariants as keyword
use Rattle.ecma_word.specs.declared.word.WordKind.TheVariants as word
use Rattle.ecma_word.specs.declared.word.IdentKind.TheVariants as ident
use Rattle.ecma_word.specs.declared.operator.BinOpToken.TheVariants as binary
use Rattle.ecma_word.specs.declared.operator.AssignOp.TheVariants as assigning
use Rattle.ecma_token_kind.specs.declared.kind.TokenKind.TheVariants as kind
use Rattle.ecma_role_table.specs.declared.state.State.TheVariants as state
use Rattle.ecma_role_table.specs.Statements as statements
use Rattle.ecma_role_table.specs.Table.{row}
use Rattle.ecma_role_moves.specs.Moves.{changed, moved}
use Rattle.ecma_role_moves.specs.Nest.{dropped_from, nested, no_function}
use Rattle.ecma_role_tracks.specs.Slashes.{expects_operand}
use Rattle.ecma_role_tracks.specs.Track.{TrackView, read_once, read_times, track, tracked}
use Rattle.ecma_role_grammar.specs.Tokens.{Division, RegularExpression, Token, parts}
use Rattle.ecma_role_grammar.specs.Grammar as g
use Rattle.ecma_role_grammar.specs.Grammar.{Derives, Parameters, in_function, is_declaration, script, with_in}
use Rattle.ecma_role_grammar.specs.Laws.{Begins, around_of}
use Rattle.ecma_role_grammar.specs.Samples.{arrow_in_conditional, arrow_without_semicolon, async_generator, call_divided, class_and_regex, division_for_regex, divided, equals, function_divided, import_and_export, is, labelled_switch, lines_without_semicolons, loop_over_matches, match_divided, object_divided, postfix_divided, quotient, regex_behind_block, regex_behind_head, regex_behind_loop, regex_for_division, said, template_divided, x}
use Rattle.ecma_role_grammar.proofs.Whole.{roles_right}
use Rattle.ecma_role_grammar.proofs.Runs.{true_false}

-- from one form of expression to those that hold it
left : {p : Parameters} {xs : List Token} → Derives g.MemberExpression p xs → Derives g.LeftHandSideExpression p xs
left d = g.left_new (g.new_member d)

unary : {p : Parameters} {xs : List Token} → Derives g.LeftHandSideExpression p xs → Derives g.UnaryExpression p xs
unary d = g.unary_update (g.update_left d)

member : {p : Parameters} {xs : List Token} → Derives g.PrimaryExpression p xs → Derives g.MemberExpression p xs
member d = g.member_primary d

value : {p : Parameters} {xs : List Token} → Derives g.BinaryExpression p xs → Derives g.AssignmentExpression p xs
value d = g.assignment_conditional (g.conditional_binary d)

operand : {p : Parameters} {xs : List Token} → Derives g.LeftHandSideExpression p xs → Derives g.BinaryExpression p xs
operand d = g.binary_unary (unary d)

primary : {p : Parameters} {xs : List Token} → Derives g.PrimaryExpression p xs → Derives g.BinaryExpression p xs
primary d = operand (left (member d))

-- x, and a regular expression
reference : (p : Parameters) → Derives g.PrimaryExpression p (x ∷ [])
reference p = g.identifier_reference (word.Ident ident.Other) false refl

regex : (p : Parameters) → Derives g.PrimaryExpression p (is kind.Regex ∷ [])
regex p = g.regular_expression false

left-x : (p : Parameters) → Derives g.LeftHandSideExpression p (x ∷ [])
left-x p = left (member (reference p))

-- x, as an argument
with-x : (p : Parameters) → Derives g.Arguments p (is kind.LParen ∷ x ∷ is kind.RParen ∷ [])
with-x p = g.arguments false false (g.argument (value (primary (reference (with_in p)))))

-- /re/.x(x)
match : (p : Parameters) → Derives g.LeftHandSideExpression p (is kind.Regex ∷ is kind.Dot ∷ x ∷ is kind.LParen ∷ x ∷ is kind.RParen ∷ [])
match p = g.left_call (g.call_member (g.member_name (word.Ident ident.Other) false false (member (regex p))) (with-x p))

-- .. / x
divided-x : {p : Parameters} {xs : List Token} → Derives g.BinaryExpression p xs → Derives g.BinaryExpression p (xs ++ divided ∷ x ∷ [])
divided-x {p = p} d = g.binary_operation binary.Div false d (unary (left-x p))

-- x = ..
assigned : {p : Parameters} {xs : List Token} → Derives g.AssignmentExpression p xs → Derives g.AssignmentExpression p (x ∷ equals ∷ xs)
assigned {p = p} d = g.assignment assigning.Assign false (left-x p) d

-- ..;
stated : {p : Parameters} {xs : List Token} → is_declaration xs ≡ false → Derives g.AssignmentExpression (with_in p) xs → Derives g.Statement p (xs ++ is kind.Semi ∷ [])
stated h d = g.expression_statement false h (g.expression d)

-- a statement, and more behind it
alone : {p : Parameters} {xs : List Token} → Derives g.Statement p xs → Derives g.StatementList p xs
alone {p = p} d = g.more_statements (g.no_statements {p = p}) (g.item_statement d)

behind : {p : Parameters} {xs ys : List Token} → Derives g.StatementList p xs → Derives g.Statement p ys → Derives g.StatementList p (xs ++ ys)
behind d k = g.more_statements d (g.item_statement k)

declared : {p : Parameters} {xs : List Token} → Derives g.Declaration p xs → Derives g.StatementList p xs
declared {p = p} d = g.more_statements (g.no_statements {p = p}) (g.item_declaration d)

-- /re/;
regex-stated : (p : Parameters) → Derives g.Statement p (is kind.Regex ∷ is kind.Semi ∷ [])
regex-stated p = stated {p = p} refl (value (primary (regex (with_in p))))

-- return /re/;
regex-returned : (p : Parameters) → Derives g.Statement p (said keyword.Return ∷ is kind.Regex ∷ is kind.Semi ∷ [])
regex-returned p = g.return_value {p = p} false false refl (g.expression (value (primary (regex (with_in p)))))

-- () { .. }
function-of : {p : Parameters} {xs : List Token} → Derives g.StatementList p xs → Derives g.ParametersAndBody p (is kind.LParen ∷ is kind.RParen ∷ (is kind.LBrace ∷ xs ++ is kind.RBrace ∷ []))
function-of {p = p} d = g.parameters_and_body false false false false (g.no_parameters {p = p}) (g.body d)

pub quotient_derives : Derives g.StatementList script quotient
quotient_derives = alone (stated {p = script} refl (assigned (value (divided-x (primary (reference script))))))

pub match_divided_derives : Derives g.StatementList script match_divided
match_divided_derives = alone (stated {p = script} refl (assigned (value (divided-x (operand (match script))))))

pub postfix_divided_derives : Derives g.StatementList script postfix_divided
postfix_divided_derives = alone (stated {p = script} refl (value (divided-x (g.binary_unary (g.unary_update (g.update_postfix kind.PlusPlus refl (left-x script)))))))

-- /re/.x(x);
match-stated : (p : Parameters) → Derives g.Statement p (is kind.Regex ∷ is kind.Dot ∷ x ∷ is kind.LParen ∷ x ∷ is kind.RParen ∷ is kind.Semi ∷ [])
match-stated p = stated {p = p} refl (value (operand (match (with_in p))))

pub regex_behind_head_derives : Derives g.StatementList script regex_behind_head
regex_behind_head_derives = alone (g.if_statement {p = script} false false false (g.expression (value (primary (reference script)))) (match-stated script))

pub call_divided_derives : Derives g.StatementList script call_divided
call_divided_derives = alone (stated {p = script} refl (value (divided-x (operand (g.left_call (g.call_member (member (reference script)) (with-x script)))))))

pub regex_behind_block_derives : Derives g.StatementList script regex_behind_block
regex_behind_block_derives = behind (alone (g.block_statement (g.block false false (g.body (g.no_statements {p = script}))))) (match-stated script)

pub object_divided_derives : Derives g.StatementList script object_divided
object_divided_derives = alone (stated {p = script} refl (assigned (value (divided-x (primary (g.object false false (g.property (g.property_value false (g.literal_name {p = script} (kind.Word (word.Ident ident.Other)) false refl) (value (primary (regex script)))))))))))

pub function_divided_derives : Derives g.StatementList script function_divided
function_divided_derives = alone (stated {p = script} refl (assigned (value (divided-x (primary (g.function_expression {p = script} [] (is kind.LParen ∷ is kind.RParen ∷ is kind.LBrace ∷ said keyword.Return ∷ is kind.Regex ∷ is kind.Semi ∷ is kind.RBrace ∷ []) false false false refl (function-of (alone (regex-returned script)))))))))

pub async_generator_derives : Derives g.StatementList script async_generator
async_generator_derives =
    let q = in_function true true in
    let yielded : Derives g.Statement q (said keyword.Yield ∷ is kind.Regex ∷ is kind.Semi ∷ []) = stated {p = q} refl (g.yield_value false refl refl (value (primary (regex q)))) in
    let awaited : Derives g.Statement q (said keyword.Await ∷ is kind.Regex ∷ is kind.Semi ∷ []) = stated {p = q} refl (value (g.binary_unary (g.unary_await false refl (unary (left (member (regex q))))))) in
    declared (g.async_function_declaration {p = script} (word.Ident ident.Other) (is kind.LParen ∷ is kind.RParen ∷ is kind.LBrace ∷ said keyword.Yield ∷ is kind.Regex ∷ is kind.Semi ∷ said keyword.Await ∷ is kind.Regex ∷ is kind.Semi ∷ is kind.RBrace ∷ []) true false false false refl (function-of (behind (alone yielded) awaited)))

pub arrow_in_conditional_derives : Derives g.StatementList script arrow_in_conditional
arrow_in_conditional_derives = alone (stated {p = script} refl (assigned (g.assignment_conditional (g.conditional false false (primary (reference script)) (g.arrow (g.arrow_name {p = script} (word.Ident ident.Other) false refl) (g.concise_body refl (value (divided-x (primary (reference script)))))) (value (primary (regex script)))))))

pub loop_over_matches_derives : Derives g.StatementList script loop_over_matches
loop_over_matches_derives = alone (g.for_statement {p = script} false false false (g.for_of_head (g.for_variable_of keyword.Const false false refl (g.target_name {p = script} (word.Ident ident.Other) false refl) (value (operand (match script))))) (stated {p = script} refl (g.assignment assigning.DivAssign false (left-x script) (value (primary (reference script))))))

pub class_and_regex_derives : Derives g.StatementList script class_and_regex
class_and_regex_derives =
    let named : Derives g.ClassElementName script (x ∷ []) = g.element_property_name (g.literal_name {p = script} (kind.Word (word.Ident ident.Other)) false refl) in
    let field : Derives g.ClassElement script (x ∷ equals ∷ x ∷ divided ∷ x ∷ is kind.Semi ∷ []) = g.class_member (g.class_field_value false false named (value (divided-x (primary (reference script))))) in
    let method : Derives g.ClassElement script (x ∷ is kind.LParen ∷ is kind.RParen ∷ is kind.LBrace ∷ said keyword.Return ∷ is kind.Regex ∷ is kind.Semi ∷ is kind.RBrace ∷ []) = g.class_member (g.class_method (g.method named (function-of (alone (regex-returned script))))) in
    let elements = g.more_class_elements (g.more_class_elements (g.no_elements {p = script}) field) method in
    behind (declared (g.class_declaration {p = script} (word.Ident ident.Other) false false refl (g.class_plain false false elements))) (stated {p = script} refl (value (operand (left (g.member_name (word.Ident ident.Other) false false (member (regex script)))))))

pub labelled_switch_derives : Derives g.StatementList script labelled_switch
labelled_switch_derives =
    let quotient-stated : Derives g.StatementList script (x ∷ divided ∷ x ∷ is kind.Semi ∷ []) = alone (stated {p = script} refl (value (divided-x (primary (reference script))))) in
    let clauses = g.more_clauses false false (g.no_clauses {p = script}) (g.expression (value (primary (regex script)))) quotient-stated in
    alone (g.labelled {p = script} (word.Ident ident.Other) false false refl (g.switch_default false false false false false false false (g.expression (value (primary (reference script)))) clauses (alone (regex-stated script)) (g.no_clauses {p = script})))

pub template_divided_derives : Derives g.StatementList script template_divided
template_divided_derives = alone (stated {p = script} refl (assigned (value (divided-x (primary (g.template (g.template_literal false false (g.template_span false false false (g.template_text {p = script} false) (g.expression (value (divided-x (primary (reference script)))))))))))))

pub regex_behind_loop_derives : Derives g.StatementList script regex_behind_loop
regex_behind_loop_derives =
    let quotient : Derives g.Statement script (x ∷ is (kind.AssignOp assigning.DivAssign) ∷ x ∷ is kind.Semi ∷ []) = stated {p = script} refl (g.assignment assigning.DivAssign false (left-x script) (value (primary (reference script)))) in
    behind (alone (g.do_while {p = script} false false false false false quotient (g.expression (value (primary (reference script)))))) (match-stated script)

pub arrow_without_semicolon_derives : Derives g.StatementList script arrow_without_semicolon
arrow_without_semicolon_derives =
    let q = g.in_arrow false (with_in script) in
    let returned : Derives g.OpenStatement q (said keyword.Return ∷ is kind.Regex ∷ []) = g.open_return_value false refl (g.expression (value (primary (regex (with_in q))))) in
    let inside = g.body_open (g.open_list (g.no_statements {p = q}) (g.open_if false false false (g.expression (value (primary (reference (with_in q))))) returned)) in
    alone (stated {p = script} refl (assigned (g.arrow (g.arrow_none {p = script} false false) (g.function_body false false inside))))

pub lines_without_semicolons_derives : Derives g.Body script lines_without_semicolons
lines_without_semicolons_derives =
    let quotient = g.open_expression {p = script} refl (g.expression (assigned (value (divided-x (primary (reference script)))))) in
    let regex-line = g.open_expression {p = script} refl (g.expression (g.assignment assigning.Assign false (left (member (g.identifier_reference {p = script} (word.Ident ident.Other) true refl))) (value (primary (regex script))))) in
    g.body_open (g.open_line (g.open_list (g.no_statements {p = script}) quotient) regex-line refl)

pub import_and_export_derives : Derives g.ModuleItemList g.module_code import_and_export
import_and_export_derives =
    let p = g.module_code in
    let imported : Derives g.ModuleItem p (said keyword.Import ∷ is kind.LBrace ∷ x ∷ g.as_word false ∷ x ∷ is kind.RBrace ∷ g.from false ∷ is kind.Str ∷ is kind.Semi ∷ []) = g.import_from false false false (g.import_named (g.specifiers false false (g.renamed {p = p} (kind.Word (word.Ident ident.Other)) (kind.Word (word.Ident ident.Other)) false false false refl refl))) (g.module_end {p = p} false) in
    let arrow : Derives g.AssignmentExpression p (g.async false ∷ x ∷ is kind.Arrow ∷ x ∷ divided ∷ x ∷ []) = g.async_arrow (g.async_name {p = p} (word.Ident ident.Other) false refl) (g.concise_body refl (value (divided-x (primary (reference (g.in_arrow true p)))))) in
    g.more_items (g.more_items (g.no_items {p = p}) imported) (g.export_default {p = p} false false false refl arrow)

-- what has no derivation: a slash stands there whose role is another

start : TrackView
start = track state.Statement (nested [] (around_of script) no_function) false

begins : Begins script start
unfolding start
begins = record { begins = refl; over = refl; around = refl; javascript = refl }

behind-x : expects_operand (tracked start (parts (x ∷ equals ∷ x ∷ []))) false ≡ false
unfolding start read_times read_once row moved changed statements.statement dropped_from
behind-x = refl

pub no_regex_for_division : Derives g.Body script regex_for_division → ⊥
no_regex_for_division d = true_false (sym (roles_right script regex_for_division start d begins (x ∷ equals ∷ x ∷ []) (x ∷ is kind.Semi ∷ []) (is kind.Regex) false RegularExpression refl refl) ∙ behind-x)

behind-head : expects_operand (tracked start (parts (said keyword.If ∷ is kind.LParen ∷ x ∷ is kind.RParen ∷ []))) false ≡ true
unfolding start read_times read_once row moved changed statements.statement dropped_from
behind-head = refl

pub no_division_for_regex : Derives g.Body script division_for_regex → ⊥
no_division_for_regex d = true_false (sym behind-head ∙ roles_right script division_for_regex start d begins (said keyword.If ∷ is kind.LParen ∷ x ∷ is kind.RParen ∷ []) (x ∷ is kind.Semi ∷ []) divided false Division refl refl)
