-- Each time that a token is read again, that is in a state of lower rank: row by row
use Rattle.std.proofs.Common.{◌≤◌, Bool, Option, arith}
use Rattle.ecma_role_table.specs.declared.part.PartKind.{PartKind}
use Rattle.ecma_role_table.specs.declared.part.PartKind.TheVariants.{Name, Reserved, Sign}
use Rattle.ecma_role_table.specs.declared.frame.Around.{Around}
use Rattle.ecma_role_table.specs.declared.frame.FrameKind.{FrameKind}
use Rattle.ecma_role_table.specs.declared.state.State.{State}
use Rattle.ecma_role_table.specs.declared.state.State.TheVariants as state
use Rattle.ecma_role_table.specs.declared.table.Seen.{Seen}
use Rattle.ecma_role_tracks.specs.Rank.{begins_statements, goes_on, height, rank}
use Rattle.ecma_role_table.specs.Table.{row}
use Rattle.ecma_role_table.specs.Statements as statements
use Rattle.ecma_role_table.specs.Modules as modules
use Rattle.ecma_role_table.specs.Members as members
use Rattle.ecma_role_table.specs.Operands as operands
use Rattle.ecma_role_table.specs.Complete as complete
use Rattle.ecma_role_table.specs.Types as types

low-statement : (kind : PartKind) (around : Around) → height (statements.statement kind around) kind ≤ rank state.Statement kind
unfolding goes_on begins_statements statements.statement
low-statement kind around = grind arith

low-export_default : (kind : PartKind) (around : Around) → height (statements.export_default kind around) kind ≤ rank state.ExportDefault kind
unfolding goes_on begins_statements
low-export_default kind around = grind (arith, low-statement)

low-restricted : (kind : PartKind) (had_line_break : Bool) → height (statements.restricted kind had_line_break) kind ≤ rank state.Restricted kind
low-restricted kind had_line_break = grind arith

low-behind_break : (kind : PartKind) (had_line_break : Bool) → height (statements.behind_break kind had_line_break) kind ≤ rank state.Break kind
low-behind_break kind had_line_break = grind arith

low-behind_default : (kind : PartKind) → height (statements.behind_default kind) kind ≤ rank state.Default kind
low-behind_default kind = grind arith

low-before_control : (kind : PartKind) → height (statements.before_control kind) kind ≤ rank state.Control kind
low-before_control kind = grind arith

low-behind_for : (kind : PartKind) → height (statements.behind_for kind) kind ≤ rank state.ForKeyword kind
low-behind_for kind = grind arith

low-for_head : (kind : PartKind) → height (statements.for_head kind) kind ≤ rank state.ForHead kind
low-for_head kind = grind arith

low-behind_let : (kind : PartKind) → height (statements.behind_let kind) kind ≤ rank state.MaybeLet kind
low-behind_let kind = grind arith

low-behind_type_word : (kind : PartKind) (had_line_break : Bool) → height (statements.behind_type_word kind had_line_break) kind ≤ rank state.MaybeType kind
low-behind_type_word kind had_line_break = grind arith

low-behind_interface_word : (kind : PartKind) (had_line_break : Bool) → height (statements.behind_interface_word kind had_line_break) kind ≤ rank state.MaybeInterface kind
low-behind_interface_word kind had_line_break = grind arith

low-enum_head : (kind : PartKind) → height (statements.enum_head kind) kind ≤ rank state.EnumHead kind
low-enum_head kind = grind arith

low-binding : (kind : PartKind) → height (statements.binding kind) kind ≤ rank state.Binding kind
low-binding kind = grind arith

low-behind_binding : (kind : PartKind) (had_line_break : Bool) → height (statements.behind_binding kind had_line_break) kind ≤ rank state.AfterBinding kind
low-behind_binding kind had_line_break = grind arith

low-behind_first_name : (kind : PartKind) → height (statements.behind_first_name kind) kind ≤ rank state.Label kind
low-behind_first_name kind = grind arith

low-behind_import : (kind : PartKind) → height (modules.behind_import kind) kind ≤ rank state.ImportStart kind
low-behind_import kind = grind arith

low-import_names : (kind : PartKind) → height (modules.import_names kind) kind ≤ rank state.Import kind
low-import_names kind = grind arith

low-behind_import_all : (kind : PartKind) → height (modules.behind_import_all kind) kind ≤ rank state.ImportAll kind
low-behind_import_all kind = grind arith

low-behind_import_as : (kind : PartKind) → height (modules.behind_import_as kind) kind ≤ rank state.ImportAs kind
low-behind_import_as kind = grind arith

low-behind_module_name : (kind : PartKind) (had_line_break : Bool) → height (modules.behind_module_name kind had_line_break) kind ≤ rank state.ImportEnd kind
low-behind_module_name kind had_line_break = grind arith

low-behind_import_with : (kind : PartKind) → height (modules.behind_import_with kind) kind ≤ rank state.ImportWith kind
low-behind_import_with kind = grind arith

low-behind_import_equals : (kind : PartKind) → height (modules.behind_import_equals kind) kind ≤ rank state.ImportEquals kind
low-behind_import_equals kind = grind arith

low-behind_import_equals_name : (kind : PartKind) → height (modules.behind_import_equals_name kind) kind ≤ rank state.ImportEqualsName kind
low-behind_import_equals_name kind = grind arith

low-behind_export : (kind : PartKind) → height (modules.behind_export kind) kind ≤ rank state.Export kind
low-behind_export kind = grind arith

low-behind_export_type : (kind : PartKind) → height (modules.behind_export_type kind) kind ≤ rank state.ExportType kind
low-behind_export_type kind = grind arith

low-behind_export_clause : (kind : PartKind) → height (modules.behind_export_clause kind) kind ≤ rank state.ExportEnd kind
low-behind_export_clause kind = grind arith

low-clause : (kind : PartKind) → height (modules.clause kind) kind ≤ rank state.Clause kind
low-clause kind = grind arith

low-function_head : (kind : PartKind) → height (members.function_head kind) kind ≤ rank state.Head kind
low-function_head kind = grind arith

low-function_head_end : (kind : PartKind) → height (members.function_head_end kind) kind ≤ rank state.HeadEnd kind
low-function_head_end kind = grind arith

low-class_head : (kind : PartKind) → height (members.class_head kind) kind ≤ rank state.ClassHead kind
low-class_head kind = grind arith

low-member : (kind : PartKind) (method : Around) → height (members.member kind method) kind ≤ rank state.Member kind
unfolding goes_on begins_statements
low-member kind method = grind arith

low-behind_member_async : (kind : PartKind) (had_line_break : Bool) → height (members.behind_member_async kind had_line_break) kind ≤ rank state.MemberAsync kind
low-behind_member_async kind had_line_break = grind arith

low-key : (kind : PartKind) (method : Around) → height (members.key kind method) kind ≤ rank state.Key kind
unfolding goes_on begins_statements
low-key kind method = grind arith

low-behind_key_async : (kind : PartKind) → height (members.behind_key_async kind) kind ≤ rank state.KeyAsync kind
low-behind_key_async kind = grind arith

low-behind_key_comma : (kind : PartKind) → height (members.behind_key_comma kind) kind ≤ rank state.KeyComma kind
low-behind_key_comma kind = grind arith

low-behind_key_comma_name : (kind : PartKind) → height (members.behind_key_comma_name kind) kind ≤ rank state.KeyCommaName kind
low-behind_key_comma_name kind = grind arith

low-behind_key_comma_parameter : (kind : PartKind) → height (members.behind_key_comma_parameter kind) kind ≤ rank state.KeyCommaParameter kind
low-behind_key_comma_parameter kind = grind arith

low-alias_head : (kind : PartKind) → height (members.alias_head kind) kind ≤ rank state.AliasHead kind
low-alias_head kind = grind arith

low-interface_head : (kind : PartKind) → height (members.interface_head kind) kind ≤ rank state.InterfaceHead kind
low-interface_head kind = grind arith

low-decorator : (kind : PartKind) → height (members.decorator kind) kind ≤ rank state.Decorator kind
low-decorator kind = grind arith

low-behind_decorator : (kind : PartKind) (had_line_break : Bool) → height (members.behind_decorator kind had_line_break) kind ≤ rank state.AfterDecorator kind
low-behind_decorator kind had_line_break = grind arith

low-operand : (kind : PartKind) (around : Around) (typescript : Bool) → height (operands.operand kind around typescript) kind ≤ rank state.Operand kind
unfolding goes_on begins_statements
low-operand kind around typescript = grind arith

low-behind_question : (kind : PartKind) (top : Option FrameKind) → height (operands.behind_question kind top) kind ≤ rank state.Conditional kind
low-behind_question kind top = grind arith

low-arrow_body : (kind : PartKind) → height (operands.arrow_body kind) kind ≤ rank state.ArrowBody kind
low-arrow_body kind = grind arith

low-template_text : (kind : PartKind) → height (operands.template_text kind) kind ≤ rank state.Quasi kind
low-template_text kind = grind arith

low-after_operand : (kind : PartKind) (had_line_break : Bool) (typescript : Bool) (top : Option FrameKind) (under : Option FrameKind) → height (complete.after_operand kind had_line_break typescript top under) kind ≤ rank state.After kind
unfolding goes_on begins_statements
low-after_operand kind had_line_break typescript top under = grind arith

low-after_postfix : (kind : PartKind) → height (complete.after_postfix kind) kind ≤ rank state.AfterPostfix kind
low-after_postfix kind = grind arith

low-behind_group : (kind : PartKind) → height (complete.behind_group kind) kind ≤ rank state.Group kind
low-behind_group kind = grind arith

low-behind_parameters : (kind : PartKind) → height (complete.behind_parameters kind) kind ≤ rank state.GroupParameters kind
low-behind_parameters kind = grind arith

low-behind_async_group : (kind : PartKind) → height (complete.behind_async_group kind) kind ≤ rank state.AsyncGroup kind
low-behind_async_group kind = grind arith

low-behind_async_parameters : (kind : PartKind) (typescript : Bool) → height (complete.behind_async_parameters kind typescript) kind ≤ rank state.AsyncGroupParameters kind
low-behind_async_parameters kind typescript = grind arith

low-behind_async : (kind : PartKind) (had_line_break : Bool) (typescript : Bool) → height (complete.behind_async kind had_line_break typescript) kind ≤ rank state.Async kind
low-behind_async kind had_line_break typescript = grind arith

low-behind_async_statement : (kind : PartKind) (had_line_break : Bool) (typescript : Bool) → height (complete.behind_async_statement kind had_line_break typescript) kind ≤ rank state.AsyncStatement kind
low-behind_async_statement kind had_line_break typescript = grind arith

low-behind_async_as : (kind : PartKind) → height (complete.behind_async_as kind) kind ≤ rank state.AsyncAs kind
low-behind_async_as kind = grind arith

low-behind_async_name : (kind : PartKind) → height (complete.behind_async_name kind) kind ≤ rank state.AsyncParameter kind
low-behind_async_name kind = grind arith

low-type_parameter : (kind : PartKind) (top : Option FrameKind) → height (complete.type_parameter kind top) kind ≤ rank state.TypeParameter kind
low-type_parameter kind top = grind arith

low-behind_async_type_arguments : (kind : PartKind) → height (complete.behind_async_type_arguments kind) kind ≤ rank state.AsyncTypeArguments kind
low-behind_async_type_arguments kind = grind arith

low-behind_type_arguments : (kind : PartKind) (had_line_break : Bool) (top : Option FrameKind) → height (complete.behind_type_arguments kind had_line_break top) kind ≤ rank state.TypeArguments kind
low-behind_type_arguments (Name n) had_line_break top = grind arith
low-behind_type_arguments (Reserved r) had_line_break top = grind arith
low-behind_type_arguments (Sign s) had_line_break top = grind arith

low-behind_function_type_arguments : (kind : PartKind) → height (complete.behind_function_type_arguments kind) kind ≤ rank state.FunctionTypeArguments kind
low-behind_function_type_arguments kind = grind arith

low-import_expression : (kind : PartKind) → height (complete.import_expression kind) kind ≤ rank state.ImportExpression kind
low-import_expression kind = grind arith

low-behind_dot : (kind : PartKind) → height (complete.behind_dot kind) kind ≤ rank state.Property kind
low-behind_dot kind = grind arith

low-behind_optional_dot : (kind : PartKind) → height (complete.behind_optional_dot kind) kind ≤ rank state.OptionalProperty kind
low-behind_optional_dot kind = grind arith

low-behind_arrow_body : (kind : PartKind) → height (complete.behind_arrow_body kind) kind ≤ rank state.ArrowEnd kind
low-behind_arrow_body kind = grind arith

low-type_operand : (kind : PartKind) → height (types.type_operand kind) kind ≤ rank state.TypeOperand kind
low-type_operand kind = grind arith

low-behind_type : (kind : PartKind) (had_line_break : Bool) (top : Option FrameKind) → height (types.behind_type kind had_line_break top) kind ≤ rank state.TypeEnd kind
low-behind_type kind had_line_break top = grind arith

low-behind_type_name : (kind : PartKind) (had_line_break : Bool) (top : Option FrameKind) → height (types.behind_type_name kind had_line_break top) kind ≤ rank state.TypeName kind
low-behind_type_name kind had_line_break top = grind arith

low-behind_type_parameters : (kind : PartKind) (had_line_break : Bool) (top : Option FrameKind) → height (types.behind_type_parameters kind had_line_break top) kind ≤ rank state.TypeParameters kind
low-behind_type_parameters kind had_line_break top = grind arith

low-behind_asserts : (kind : PartKind) (had_line_break : Bool) → height (types.behind_asserts kind had_line_break) kind ≤ rank state.Asserts kind
low-behind_asserts kind had_line_break = grind arith

low-behind_type_dot : (kind : PartKind) → height (types.behind_type_dot kind) kind ≤ rank state.TypeProperty kind
low-behind_type_dot kind = grind arith

low-in_type_paren : (kind : PartKind) → height (types.in_type_paren kind) kind ≤ rank state.TypeParen kind
low-in_type_paren kind = grind arith

low-behind_type_paren_name : (kind : PartKind) → height (types.behind_type_paren_name kind) kind ≤ rank state.TypeParenName kind
low-behind_type_paren_name kind = grind arith

low-in_type_brackets : (kind : PartKind) → height (types.in_type_brackets kind) kind ≤ rank state.TypeBrackets kind
low-in_type_brackets kind = grind arith

pub row_low : (s : State) (kind : PartKind) (seen : Seen) → height (row s kind seen) kind ≤ rank s kind
unfolding row
row_low state.Statement kind seen = low-statement kind seen.around
row_low state.ExportDefault kind seen = low-export_default kind seen.around
row_low state.Restricted kind seen = low-restricted kind seen.had_line_break
row_low state.Break kind seen = low-behind_break kind seen.had_line_break
row_low state.Default kind seen = low-behind_default kind
row_low state.Control kind seen = low-before_control kind
row_low state.ForKeyword kind seen = low-behind_for kind
row_low state.ForHead kind seen = low-for_head kind
row_low state.MaybeLet kind seen = low-behind_let kind
row_low state.MaybeType kind seen = low-behind_type_word kind seen.had_line_break
row_low state.MaybeInterface kind seen = low-behind_interface_word kind seen.had_line_break
row_low state.EnumHead kind seen = low-enum_head kind
row_low state.Binding kind seen = low-binding kind
row_low state.AfterBinding kind seen = low-behind_binding kind seen.had_line_break
row_low state.Label kind seen = low-behind_first_name kind
row_low state.ImportStart kind seen = low-behind_import kind
row_low state.Import kind seen = low-import_names kind
row_low state.ImportAll kind seen = low-behind_import_all kind
row_low state.ImportAs kind seen = low-behind_import_as kind
row_low state.ImportEnd kind seen = low-behind_module_name kind seen.had_line_break
row_low state.ImportWith kind seen = low-behind_import_with kind
row_low state.ImportEquals kind seen = low-behind_import_equals kind
row_low state.ImportEqualsName kind seen = low-behind_import_equals_name kind
row_low state.Export kind seen = low-behind_export kind
row_low state.ExportType kind seen = low-behind_export_type kind
row_low state.ExportEnd kind seen = low-behind_export_clause kind
row_low state.Clause kind seen = low-clause kind
row_low state.Head kind seen = low-function_head kind
row_low state.HeadEnd kind seen = low-function_head_end kind
row_low state.ClassHead kind seen = low-class_head kind
row_low state.Member kind seen = low-member kind seen.method
row_low state.MemberAsync kind seen = low-behind_member_async kind seen.had_line_break
row_low state.Key kind seen = low-key kind seen.method
row_low state.KeyAsync kind seen = low-behind_key_async kind
row_low state.KeyComma kind seen = low-behind_key_comma kind
row_low state.KeyCommaName kind seen = low-behind_key_comma_name kind
row_low state.KeyCommaParameter kind seen = low-behind_key_comma_parameter kind
row_low state.AliasHead kind seen = low-alias_head kind
row_low state.InterfaceHead kind seen = low-interface_head kind
row_low state.Decorator kind seen = low-decorator kind
row_low state.AfterDecorator kind seen = low-behind_decorator kind seen.had_line_break
row_low state.Operand kind seen = low-operand kind seen.around seen.typescript
row_low state.Conditional kind seen = low-behind_question kind seen.top
row_low state.ArrowBody kind seen = low-arrow_body kind
row_low state.Quasi kind seen = low-template_text kind
row_low state.After kind seen = low-after_operand kind seen.had_line_break seen.typescript seen.top seen.under
row_low state.AfterPostfix kind seen = low-after_postfix kind
row_low state.Group kind seen = low-behind_group kind
row_low state.GroupParameters kind seen = low-behind_parameters kind
row_low state.AsyncGroup kind seen = low-behind_async_group kind
row_low state.AsyncGroupParameters kind seen = low-behind_async_parameters kind seen.typescript
row_low state.Async kind seen = low-behind_async kind seen.had_line_break seen.typescript
row_low state.AsyncStatement kind seen = low-behind_async_statement kind seen.had_line_break seen.typescript
row_low state.AsyncAs kind seen = low-behind_async_as kind
row_low state.AsyncParameter kind seen = low-behind_async_name kind
row_low state.TypeParameter kind seen = low-type_parameter kind seen.top
row_low state.AsyncTypeArguments kind seen = low-behind_async_type_arguments kind
row_low state.TypeArguments kind seen = low-behind_type_arguments kind seen.had_line_break seen.top
row_low state.FunctionTypeArguments kind seen = low-behind_function_type_arguments kind
row_low state.ImportExpression kind seen = low-import_expression kind
row_low state.Property kind seen = low-behind_dot kind
row_low state.OptionalProperty kind seen = low-behind_optional_dot kind
row_low state.ArrowEnd kind seen = low-behind_arrow_body kind
row_low state.TypeOperand kind seen = low-type_operand kind
row_low state.TypeEnd kind seen = low-behind_type kind seen.had_line_break seen.top
row_low state.TypeName kind seen = low-behind_type_name kind seen.had_line_break seen.top
row_low state.TypeParameters kind seen = low-behind_type_parameters kind seen.had_line_break seen.top
row_low state.Asserts kind seen = low-behind_asserts kind seen.had_line_break
row_low state.TypeProperty kind seen = low-behind_type_dot kind
row_low state.TypeParen kind seen = low-in_type_paren kind
row_low state.TypeParenName kind seen = low-behind_type_paren_name kind
row_low state.TypeBrackets kind seen = low-in_type_brackets kind
