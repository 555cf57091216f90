-- Each row of the table is right: row by row
use Rattle.std.proofs.Common.{◌≡◌, Bool, true, Option, arith}
use Rattle.ecma_role_table.specs.declared.part.PartKind.{PartKind}
use Rattle.ecma_role_table.specs.declared.frame.Around.{Around}
use Rattle.ecma_role_table.specs.declared.frame.FrameKind.{FrameKind}
use Rattle.ecma_role_table.specs.declared.state.State.{State}
use Rattle.ecma_role_table.specs.declared.state.State.TheVariants as state
use Rattle.ecma_role_table.specs.declared.table.Seen.{Seen}
use Rattle.ecma_role_table.specs.Table.{row}
use Rattle.ecma_role_table.specs.Statements as statements
use Rattle.ecma_role_table.specs.Modules as modules
use Rattle.ecma_role_table.specs.Members as members
use Rattle.ecma_role_table.specs.Operands as operands
use Rattle.ecma_role_table.specs.Complete as complete
use Rattle.ecma_role_table.specs.Types as types
use Rattle.ecma_role_laws.proofs.Right.{is_fit, meets, need}

right-statement : (kind : PartKind) (around : Around) (top : Option FrameKind) → meets (need state.Statement) top ≡ true → is_fit state.Statement kind top (statements.statement kind around) ≡ true
unfolding statements.statement
right-statement kind around top met = grind (arith, met)

right-export_default : (kind : PartKind) (around : Around) (top : Option FrameKind) → meets (need state.ExportDefault) top ≡ true → is_fit state.ExportDefault kind top (statements.export_default kind around) ≡ true
unfolding statements.statement
right-export_default kind around top met = grind (arith, met)

right-restricted : (kind : PartKind) (had_line_break : Bool) (top : Option FrameKind) → meets (need state.Restricted) top ≡ true → is_fit state.Restricted kind top (statements.restricted kind had_line_break) ≡ true
right-restricted kind had_line_break top met = grind (arith, met)

right-behind_break : (kind : PartKind) (had_line_break : Bool) (top : Option FrameKind) → meets (need state.Break) top ≡ true → is_fit state.Break kind top (statements.behind_break kind had_line_break) ≡ true
right-behind_break kind had_line_break top met = grind (arith, met)

right-behind_default : (kind : PartKind) (top : Option FrameKind) → meets (need state.Default) top ≡ true → is_fit state.Default kind top (statements.behind_default kind) ≡ true
right-behind_default kind top met = grind (arith, met)

right-before_control : (kind : PartKind) (top : Option FrameKind) → meets (need state.Control) top ≡ true → is_fit state.Control kind top (statements.before_control kind) ≡ true
right-before_control kind top met = grind (arith, met)

right-behind_for : (kind : PartKind) (top : Option FrameKind) → meets (need state.ForKeyword) top ≡ true → is_fit state.ForKeyword kind top (statements.behind_for kind) ≡ true
right-behind_for kind top met = grind (arith, met)

right-for_head : (kind : PartKind) (top : Option FrameKind) → meets (need state.ForHead) top ≡ true → is_fit state.ForHead kind top (statements.for_head kind) ≡ true
right-for_head kind top met = grind (arith, met)

right-behind_let : (kind : PartKind) (top : Option FrameKind) → meets (need state.MaybeLet) top ≡ true → is_fit state.MaybeLet kind top (statements.behind_let kind) ≡ true
right-behind_let kind top met = grind (arith, met)

right-behind_type_word : (kind : PartKind) (had_line_break : Bool) (top : Option FrameKind) → meets (need state.MaybeType) top ≡ true → is_fit state.MaybeType kind top (statements.behind_type_word kind had_line_break) ≡ true
right-behind_type_word kind had_line_break top met = grind (arith, met)

right-behind_interface_word : (kind : PartKind) (had_line_break : Bool) (top : Option FrameKind) → meets (need state.MaybeInterface) top ≡ true → is_fit state.MaybeInterface kind top (statements.behind_interface_word kind had_line_break) ≡ true
right-behind_interface_word kind had_line_break top met = grind (arith, met)

right-enum_head : (kind : PartKind) (top : Option FrameKind) → meets (need state.EnumHead) top ≡ true → is_fit state.EnumHead kind top (statements.enum_head kind) ≡ true
right-enum_head kind top met = grind (arith, met)

right-binding : (kind : PartKind) (top : Option FrameKind) → meets (need state.Binding) top ≡ true → is_fit state.Binding kind top (statements.binding kind) ≡ true
right-binding kind top met = grind (arith, met)

right-behind_binding : (kind : PartKind) (had_line_break : Bool) (top : Option FrameKind) → meets (need state.AfterBinding) top ≡ true → is_fit state.AfterBinding kind top (statements.behind_binding kind had_line_break) ≡ true
right-behind_binding kind had_line_break top met = grind (arith, met)

right-behind_first_name : (kind : PartKind) (top : Option FrameKind) → meets (need state.Label) top ≡ true → is_fit state.Label kind top (statements.behind_first_name kind) ≡ true
right-behind_first_name kind top met = grind (arith, met)

right-behind_import : (kind : PartKind) (top : Option FrameKind) → meets (need state.ImportStart) top ≡ true → is_fit state.ImportStart kind top (modules.behind_import kind) ≡ true
right-behind_import kind top met = grind (arith, met)

right-import_names : (kind : PartKind) (top : Option FrameKind) → meets (need state.Import) top ≡ true → is_fit state.Import kind top (modules.import_names kind) ≡ true
right-import_names kind top met = grind (arith, met)

right-behind_import_all : (kind : PartKind) (top : Option FrameKind) → meets (need state.ImportAll) top ≡ true → is_fit state.ImportAll kind top (modules.behind_import_all kind) ≡ true
right-behind_import_all kind top met = grind (arith, met)

right-behind_import_as : (kind : PartKind) (top : Option FrameKind) → meets (need state.ImportAs) top ≡ true → is_fit state.ImportAs kind top (modules.behind_import_as kind) ≡ true
right-behind_import_as kind top met = grind (arith, met)

right-behind_module_name : (kind : PartKind) (had_line_break : Bool) (top : Option FrameKind) → meets (need state.ImportEnd) top ≡ true → is_fit state.ImportEnd kind top (modules.behind_module_name kind had_line_break) ≡ true
right-behind_module_name kind had_line_break top met = grind (arith, met)

right-behind_import_with : (kind : PartKind) (top : Option FrameKind) → meets (need state.ImportWith) top ≡ true → is_fit state.ImportWith kind top (modules.behind_import_with kind) ≡ true
right-behind_import_with kind top met = grind (arith, met)

right-behind_import_equals : (kind : PartKind) (top : Option FrameKind) → meets (need state.ImportEquals) top ≡ true → is_fit state.ImportEquals kind top (modules.behind_import_equals kind) ≡ true
right-behind_import_equals kind top met = grind (arith, met)

right-behind_import_equals_name : (kind : PartKind) (top : Option FrameKind) → meets (need state.ImportEqualsName) top ≡ true → is_fit state.ImportEqualsName kind top (modules.behind_import_equals_name kind) ≡ true
right-behind_import_equals_name kind top met = grind (arith, met)

right-behind_export : (kind : PartKind) (top : Option FrameKind) → meets (need state.Export) top ≡ true → is_fit state.Export kind top (modules.behind_export kind) ≡ true
right-behind_export kind top met = grind (arith, met)

right-behind_export_type : (kind : PartKind) (top : Option FrameKind) → meets (need state.ExportType) top ≡ true → is_fit state.ExportType kind top (modules.behind_export_type kind) ≡ true
right-behind_export_type kind top met = grind (arith, met)

right-behind_export_clause : (kind : PartKind) (top : Option FrameKind) → meets (need state.ExportEnd) top ≡ true → is_fit state.ExportEnd kind top (modules.behind_export_clause kind) ≡ true
right-behind_export_clause kind top met = grind (arith, met)

right-clause : (kind : PartKind) (top : Option FrameKind) → meets (need state.Clause) top ≡ true → is_fit state.Clause kind top (modules.clause kind) ≡ true
right-clause kind top met = grind (arith, met)

right-function_head : (kind : PartKind) (top : Option FrameKind) → meets (need state.Head) top ≡ true → is_fit state.Head kind top (members.function_head kind) ≡ true
right-function_head kind top met = grind (arith, met)

right-function_head_end : (kind : PartKind) (top : Option FrameKind) → meets (need state.HeadEnd) top ≡ true → is_fit state.HeadEnd kind top (members.function_head_end kind) ≡ true
right-function_head_end kind top met = grind (arith, met)

right-class_head : (kind : PartKind) (top : Option FrameKind) → meets (need state.ClassHead) top ≡ true → is_fit state.ClassHead kind top (members.class_head kind) ≡ true
right-class_head kind top met = grind (arith, met)

right-member : (kind : PartKind) (method : Around) (top : Option FrameKind) → meets (need state.Member) top ≡ true → is_fit state.Member kind top (members.member kind method) ≡ true
right-member kind method top met = grind (arith, met)

right-behind_member_async : (kind : PartKind) (had_line_break : Bool) (top : Option FrameKind) → meets (need state.MemberAsync) top ≡ true → is_fit state.MemberAsync kind top (members.behind_member_async kind had_line_break) ≡ true
right-behind_member_async kind had_line_break top met = grind (arith, met)

right-key : (kind : PartKind) (method : Around) (top : Option FrameKind) → meets (need state.Key) top ≡ true → is_fit state.Key kind top (members.key kind method) ≡ true
right-key kind method top met = grind (arith, met)

right-behind_key_async : (kind : PartKind) (top : Option FrameKind) → meets (need state.KeyAsync) top ≡ true → is_fit state.KeyAsync kind top (members.behind_key_async kind) ≡ true
right-behind_key_async kind top met = grind (arith, met)

right-behind_key_comma : (kind : PartKind) (top : Option FrameKind) → meets (need state.KeyComma) top ≡ true → is_fit state.KeyComma kind top (members.behind_key_comma kind) ≡ true
right-behind_key_comma kind top met = grind (arith, met)

right-behind_key_comma_name : (kind : PartKind) (top : Option FrameKind) → meets (need state.KeyCommaName) top ≡ true → is_fit state.KeyCommaName kind top (members.behind_key_comma_name kind) ≡ true
right-behind_key_comma_name kind top met = grind (arith, met)

right-behind_key_comma_parameter : (kind : PartKind) (top : Option FrameKind) → meets (need state.KeyCommaParameter) top ≡ true → is_fit state.KeyCommaParameter kind top (members.behind_key_comma_parameter kind) ≡ true
right-behind_key_comma_parameter kind top met = grind (arith, met)

right-alias_head : (kind : PartKind) (top : Option FrameKind) → meets (need state.AliasHead) top ≡ true → is_fit state.AliasHead kind top (members.alias_head kind) ≡ true
right-alias_head kind top met = grind (arith, met)

right-interface_head : (kind : PartKind) (top : Option FrameKind) → meets (need state.InterfaceHead) top ≡ true → is_fit state.InterfaceHead kind top (members.interface_head kind) ≡ true
right-interface_head kind top met = grind (arith, met)

right-decorator : (kind : PartKind) (top : Option FrameKind) → meets (need state.Decorator) top ≡ true → is_fit state.Decorator kind top (members.decorator kind) ≡ true
right-decorator kind top met = grind (arith, met)

right-behind_decorator : (kind : PartKind) (had_line_break : Bool) (top : Option FrameKind) → meets (need state.AfterDecorator) top ≡ true → is_fit state.AfterDecorator kind top (members.behind_decorator kind had_line_break) ≡ true
right-behind_decorator kind had_line_break top met = grind (arith, met)

right-operand : (kind : PartKind) (around : Around) (typescript : Bool) (top : Option FrameKind) → meets (need state.Operand) top ≡ true → is_fit state.Operand kind top (operands.operand kind around typescript) ≡ true
right-operand kind around typescript top met = grind (arith, met)

right-behind_question : (kind : PartKind) (top : Option FrameKind) → meets (need state.Conditional) top ≡ true → is_fit state.Conditional kind top (operands.behind_question kind top) ≡ true
right-behind_question kind top met = grind (arith, met)

right-arrow_body : (kind : PartKind) (top : Option FrameKind) → meets (need state.ArrowBody) top ≡ true → is_fit state.ArrowBody kind top (operands.arrow_body kind) ≡ true
right-arrow_body kind top met = grind (arith, met)

right-template_text : (kind : PartKind) (top : Option FrameKind) → meets (need state.Quasi) top ≡ true → is_fit state.Quasi kind top (operands.template_text kind) ≡ true
right-template_text kind top met = grind (arith, met)

right-after_operand : (kind : PartKind) (had_line_break : Bool) (typescript : Bool) (top : Option FrameKind) (under : Option FrameKind) → meets (need state.After) top ≡ true → is_fit state.After kind top (complete.after_operand kind had_line_break typescript top under) ≡ true
right-after_operand kind had_line_break typescript top under met = grind (arith, met)

right-after_postfix : (kind : PartKind) (top : Option FrameKind) → meets (need state.AfterPostfix) top ≡ true → is_fit state.AfterPostfix kind top (complete.after_postfix kind) ≡ true
right-after_postfix kind top met = grind (arith, met)

right-behind_group : (kind : PartKind) (top : Option FrameKind) → meets (need state.Group) top ≡ true → is_fit state.Group kind top (complete.behind_group kind) ≡ true
right-behind_group kind top met = grind (arith, met)

right-behind_parameters : (kind : PartKind) (top : Option FrameKind) → meets (need state.GroupParameters) top ≡ true → is_fit state.GroupParameters kind top (complete.behind_parameters kind) ≡ true
right-behind_parameters kind top met = grind (arith, met)

right-behind_async_group : (kind : PartKind) (top : Option FrameKind) → meets (need state.AsyncGroup) top ≡ true → is_fit state.AsyncGroup kind top (complete.behind_async_group kind) ≡ true
right-behind_async_group kind top met = grind (arith, met)

right-behind_async_parameters : (kind : PartKind) (typescript : Bool) (top : Option FrameKind) → meets (need state.AsyncGroupParameters) top ≡ true → is_fit state.AsyncGroupParameters kind top (complete.behind_async_parameters kind typescript) ≡ true
right-behind_async_parameters kind typescript top met = grind (arith, met)

right-behind_async : (kind : PartKind) (had_line_break : Bool) (typescript : Bool) (top : Option FrameKind) → meets (need state.Async) top ≡ true → is_fit state.Async kind top (complete.behind_async kind had_line_break typescript) ≡ true
right-behind_async kind had_line_break typescript top met = grind (arith, met)

right-behind_async_statement : (kind : PartKind) (had_line_break : Bool) (typescript : Bool) (top : Option FrameKind) → meets (need state.AsyncStatement) top ≡ true → is_fit state.AsyncStatement kind top (complete.behind_async_statement kind had_line_break typescript) ≡ true
unfolding statements.statement
right-behind_async_statement kind had_line_break typescript top met = grind (arith, met)

right-behind_async_as : (kind : PartKind) (top : Option FrameKind) → meets (need state.AsyncAs) top ≡ true → is_fit state.AsyncAs kind top (complete.behind_async_as kind) ≡ true
right-behind_async_as kind top met = grind (arith, met)

right-behind_async_name : (kind : PartKind) (top : Option FrameKind) → meets (need state.AsyncParameter) top ≡ true → is_fit state.AsyncParameter kind top (complete.behind_async_name kind) ≡ true
right-behind_async_name kind top met = grind (arith, met)

right-type_parameter : (kind : PartKind) (top : Option FrameKind) → meets (need state.TypeParameter) top ≡ true → is_fit state.TypeParameter kind top (complete.type_parameter kind top) ≡ true
right-type_parameter kind top met = grind (arith, met)

right-behind_async_type_arguments : (kind : PartKind) (top : Option FrameKind) → meets (need state.AsyncTypeArguments) top ≡ true → is_fit state.AsyncTypeArguments kind top (complete.behind_async_type_arguments kind) ≡ true
right-behind_async_type_arguments kind top met = grind (arith, met)

right-behind_type_arguments : (kind : PartKind) (had_line_break : Bool) (top : Option FrameKind) → meets (need state.TypeArguments) top ≡ true → is_fit state.TypeArguments kind top (complete.behind_type_arguments kind had_line_break top) ≡ true
right-behind_type_arguments kind had_line_break top met = grind (arith, met)

right-behind_function_type_arguments : (kind : PartKind) (top : Option FrameKind) → meets (need state.FunctionTypeArguments) top ≡ true → is_fit state.FunctionTypeArguments kind top (complete.behind_function_type_arguments kind) ≡ true
right-behind_function_type_arguments kind top met = grind (arith, met)

right-import_expression : (kind : PartKind) (top : Option FrameKind) → meets (need state.ImportExpression) top ≡ true → is_fit state.ImportExpression kind top (complete.import_expression kind) ≡ true
right-import_expression kind top met = grind (arith, met)

right-behind_dot : (kind : PartKind) (top : Option FrameKind) → meets (need state.Property) top ≡ true → is_fit state.Property kind top (complete.behind_dot kind) ≡ true
right-behind_dot kind top met = grind (arith, met)

right-behind_optional_dot : (kind : PartKind) (top : Option FrameKind) → meets (need state.OptionalProperty) top ≡ true → is_fit state.OptionalProperty kind top (complete.behind_optional_dot kind) ≡ true
right-behind_optional_dot kind top met = grind (arith, met)

right-behind_arrow_body : (kind : PartKind) (top : Option FrameKind) → meets (need state.ArrowEnd) top ≡ true → is_fit state.ArrowEnd kind top (complete.behind_arrow_body kind) ≡ true
right-behind_arrow_body kind top met = grind (arith, met)

right-type_operand : (kind : PartKind) (top : Option FrameKind) → meets (need state.TypeOperand) top ≡ true → is_fit state.TypeOperand kind top (types.type_operand kind) ≡ true
right-type_operand kind top met = grind (arith, met)

right-behind_type : (kind : PartKind) (had_line_break : Bool) (top : Option FrameKind) → meets (need state.TypeEnd) top ≡ true → is_fit state.TypeEnd kind top (types.behind_type kind had_line_break top) ≡ true
right-behind_type kind had_line_break top met = grind (arith, met)

right-behind_type_name : (kind : PartKind) (had_line_break : Bool) (top : Option FrameKind) → meets (need state.TypeName) top ≡ true → is_fit state.TypeName kind top (types.behind_type_name kind had_line_break top) ≡ true
right-behind_type_name kind had_line_break top met = grind (arith, met)

right-behind_type_parameters : (kind : PartKind) (had_line_break : Bool) (top : Option FrameKind) → meets (need state.TypeParameters) top ≡ true → is_fit state.TypeParameters kind top (types.behind_type_parameters kind had_line_break top) ≡ true
right-behind_type_parameters kind had_line_break top met = grind (arith, met)

right-behind_asserts : (kind : PartKind) (had_line_break : Bool) (top : Option FrameKind) → meets (need state.Asserts) top ≡ true → is_fit state.Asserts kind top (types.behind_asserts kind had_line_break) ≡ true
right-behind_asserts kind had_line_break top met = grind (arith, met)

right-behind_type_dot : (kind : PartKind) (top : Option FrameKind) → meets (need state.TypeProperty) top ≡ true → is_fit state.TypeProperty kind top (types.behind_type_dot kind) ≡ true
right-behind_type_dot kind top met = grind (arith, met)

right-in_type_paren : (kind : PartKind) (top : Option FrameKind) → meets (need state.TypeParen) top ≡ true → is_fit state.TypeParen kind top (types.in_type_paren kind) ≡ true
right-in_type_paren kind top met = grind (arith, met)

right-behind_type_paren_name : (kind : PartKind) (top : Option FrameKind) → meets (need state.TypeParenName) top ≡ true → is_fit state.TypeParenName kind top (types.behind_type_paren_name kind) ≡ true
right-behind_type_paren_name kind top met = grind (arith, met)

right-in_type_brackets : (kind : PartKind) (top : Option FrameKind) → meets (need state.TypeBrackets) top ≡ true → is_fit state.TypeBrackets kind top (types.in_type_brackets kind) ≡ true
right-in_type_brackets kind top met = grind (arith, met)

pub row_right : (s : State) (kind : PartKind) (seen : Seen) → meets (need s) seen.top ≡ true → is_fit s kind seen.top (row s kind seen) ≡ true
unfolding row
row_right state.Statement kind seen met = right-statement kind seen.around seen.top met
row_right state.ExportDefault kind seen met = right-export_default kind seen.around seen.top met
row_right state.Restricted kind seen met = right-restricted kind seen.had_line_break seen.top met
row_right state.Break kind seen met = right-behind_break kind seen.had_line_break seen.top met
row_right state.Default kind seen met = right-behind_default kind seen.top met
row_right state.Control kind seen met = right-before_control kind seen.top met
row_right state.ForKeyword kind seen met = right-behind_for kind seen.top met
row_right state.ForHead kind seen met = right-for_head kind seen.top met
row_right state.MaybeLet kind seen met = right-behind_let kind seen.top met
row_right state.MaybeType kind seen met = right-behind_type_word kind seen.had_line_break seen.top met
row_right state.MaybeInterface kind seen met = right-behind_interface_word kind seen.had_line_break seen.top met
row_right state.EnumHead kind seen met = right-enum_head kind seen.top met
row_right state.Binding kind seen met = right-binding kind seen.top met
row_right state.AfterBinding kind seen met = right-behind_binding kind seen.had_line_break seen.top met
row_right state.Label kind seen met = right-behind_first_name kind seen.top met
row_right state.ImportStart kind seen met = right-behind_import kind seen.top met
row_right state.Import kind seen met = right-import_names kind seen.top met
row_right state.ImportAll kind seen met = right-behind_import_all kind seen.top met
row_right state.ImportAs kind seen met = right-behind_import_as kind seen.top met
row_right state.ImportEnd kind seen met = right-behind_module_name kind seen.had_line_break seen.top met
row_right state.ImportWith kind seen met = right-behind_import_with kind seen.top met
row_right state.ImportEquals kind seen met = right-behind_import_equals kind seen.top met
row_right state.ImportEqualsName kind seen met = right-behind_import_equals_name kind seen.top met
row_right state.Export kind seen met = right-behind_export kind seen.top met
row_right state.ExportType kind seen met = right-behind_export_type kind seen.top met
row_right state.ExportEnd kind seen met = right-behind_export_clause kind seen.top met
row_right state.Clause kind seen met = right-clause kind seen.top met
row_right state.Head kind seen met = right-function_head kind seen.top met
row_right state.HeadEnd kind seen met = right-function_head_end kind seen.top met
row_right state.ClassHead kind seen met = right-class_head kind seen.top met
row_right state.Member kind seen met = right-member kind seen.method seen.top met
row_right state.MemberAsync kind seen met = right-behind_member_async kind seen.had_line_break seen.top met
row_right state.Key kind seen met = right-key kind seen.method seen.top met
row_right state.KeyAsync kind seen met = right-behind_key_async kind seen.top met
row_right state.KeyComma kind seen met = right-behind_key_comma kind seen.top met
row_right state.KeyCommaName kind seen met = right-behind_key_comma_name kind seen.top met
row_right state.KeyCommaParameter kind seen met = right-behind_key_comma_parameter kind seen.top met
row_right state.AliasHead kind seen met = right-alias_head kind seen.top met
row_right state.InterfaceHead kind seen met = right-interface_head kind seen.top met
row_right state.Decorator kind seen met = right-decorator kind seen.top met
row_right state.AfterDecorator kind seen met = right-behind_decorator kind seen.had_line_break seen.top met
row_right state.Operand kind seen met = right-operand kind seen.around seen.typescript seen.top met
row_right state.Conditional kind seen met = right-behind_question kind seen.top met
row_right state.ArrowBody kind seen met = right-arrow_body kind seen.top met
row_right state.Quasi kind seen met = right-template_text kind seen.top met
row_right state.After kind seen met = right-after_operand kind seen.had_line_break seen.typescript seen.top seen.under met
row_right state.AfterPostfix kind seen met = right-after_postfix kind seen.top met
row_right state.Group kind seen met = right-behind_group kind seen.top met
row_right state.GroupParameters kind seen met = right-behind_parameters kind seen.top met
row_right state.AsyncGroup kind seen met = right-behind_async_group kind seen.top met
row_right state.AsyncGroupParameters kind seen met = right-behind_async_parameters kind seen.typescript seen.top met
row_right state.Async kind seen met = right-behind_async kind seen.had_line_break seen.typescript seen.top met
row_right state.AsyncStatement kind seen met = right-behind_async_statement kind seen.had_line_break seen.typescript seen.top met
row_right state.AsyncAs kind seen met = right-behind_async_as kind seen.top met
row_right state.AsyncParameter kind seen met = right-behind_async_name kind seen.top met
row_right state.TypeParameter kind seen met = right-type_parameter kind seen.top met
row_right state.AsyncTypeArguments kind seen met = right-behind_async_type_arguments kind seen.top met
row_right state.TypeArguments kind seen met = right-behind_type_arguments kind seen.had_line_break seen.top met
row_right state.FunctionTypeArguments kind seen met = right-behind_function_type_arguments kind seen.top met
row_right state.ImportExpression kind seen met = right-import_expression kind seen.top met
row_right state.Property kind seen met = right-behind_dot kind seen.top met
row_right state.OptionalProperty kind seen met = right-behind_optional_dot kind seen.top met
row_right state.ArrowEnd kind seen met = right-behind_arrow_body kind seen.top met
row_right state.TypeOperand kind seen met = right-type_operand kind seen.top met
row_right state.TypeEnd kind seen met = right-behind_type kind seen.had_line_break seen.top met
row_right state.TypeName kind seen met = right-behind_type_name kind seen.had_line_break seen.top met
row_right state.TypeParameters kind seen met = right-behind_type_parameters kind seen.had_line_break seen.top met
row_right state.Asserts kind seen met = right-behind_asserts kind seen.had_line_break seen.top met
row_right state.TypeProperty kind seen met = right-behind_type_dot kind seen.top met
row_right state.TypeParen kind seen met = right-in_type_paren kind seen.top met
row_right state.TypeParenName kind seen met = right-behind_type_paren_name kind seen.top met
row_right state.TypeBrackets kind seen met = right-in_type_brackets kind seen.top met
