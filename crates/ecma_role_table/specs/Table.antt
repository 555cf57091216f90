-- The table: for each state its row
use Rattle.std.specs.Prelude.{Bool, true, false}
use Rattle.ecma_role_table.specs.declared.part.PartKind.{PartKind}
use Rattle.ecma_role_table.specs.declared.state.State.{State}
use Rattle.ecma_role_table.specs.declared.state.State.TheVariants as state
use Rattle.ecma_role_table.specs.declared.moves.Move.{Move}
use Rattle.ecma_role_table.specs.declared.table.Seen.{Seen}
use Rattle.ecma_role_table.specs.Statements as statements
use Rattle.ecma_role_table.specs.Modules as modules
use Rattle.ecma_role_table.specs.Members as members
use Rattle.ecma_role_table.specs.Operands as operands
use Rattle.ecma_role_table.specs.Complete as complete
use Rattle.ecma_role_table.specs.Types as types

-- what is to be done with a token of this kind in a state
unfoldable pub row : State → PartKind → Seen → Move
row state.Statement kind seen = statements.statement kind seen.around
row state.ExportDefault kind seen = statements.export_default kind seen.around
row state.Restricted kind seen = statements.restricted kind seen.had_line_break
row state.Break kind seen = statements.behind_break kind seen.had_line_break
row state.Default kind seen = statements.behind_default kind
row state.Control kind seen = statements.before_control kind
row state.ForKeyword kind seen = statements.behind_for kind
row state.ForHead kind seen = statements.for_head kind
row state.MaybeLet kind seen = statements.behind_let kind
row state.MaybeType kind seen = statements.behind_type_word kind seen.had_line_break
row state.MaybeInterface kind seen = statements.behind_interface_word kind seen.had_line_break
row state.EnumHead kind seen = statements.enum_head kind
row state.Binding kind seen = statements.binding kind
row state.AfterBinding kind seen = statements.behind_binding kind seen.had_line_break
row state.Label kind seen = statements.behind_first_name kind
row state.ImportStart kind seen = modules.behind_import kind
row state.Import kind seen = modules.import_names kind
row state.ImportAll kind seen = modules.behind_import_all kind
row state.ImportAs kind seen = modules.behind_import_as kind
row state.ImportEnd kind seen = modules.behind_module_name kind seen.had_line_break
row state.ImportWith kind seen = modules.behind_import_with kind
row state.ImportEquals kind seen = modules.behind_import_equals kind
row state.ImportEqualsName kind seen = modules.behind_import_equals_name kind
row state.Export kind seen = modules.behind_export kind
row state.ExportType kind seen = modules.behind_export_type kind
row state.ExportEnd kind seen = modules.behind_export_clause kind
row state.Clause kind seen = modules.clause kind
row state.Head kind seen = members.function_head kind
row state.HeadEnd kind seen = members.function_head_end kind
row state.ClassHead kind seen = members.class_head kind
row state.Member kind seen = members.member kind seen.method
row state.MemberAsync kind seen = members.behind_member_async kind seen.had_line_break
row state.Key kind seen = members.key kind seen.method
row state.KeyAsync kind seen = members.behind_key_async kind
row state.KeyComma kind seen = members.behind_key_comma kind
row state.KeyCommaName kind seen = members.behind_key_comma_name kind
row state.KeyCommaParameter kind seen = members.behind_key_comma_parameter kind
row state.AliasHead kind seen = members.alias_head kind
row state.InterfaceHead kind seen = members.interface_head kind
row state.Decorator kind seen = members.decorator kind
row state.AfterDecorator kind seen = members.behind_decorator kind seen.had_line_break
row state.Operand kind seen = operands.operand kind seen.around seen.typescript
row state.Conditional kind seen = operands.behind_question kind seen.top
row state.ArrowBody kind seen = operands.arrow_body kind
row state.Quasi kind seen = operands.template_text kind
row state.After kind seen = complete.after_operand kind seen.had_line_break seen.typescript seen.top seen.under
row state.AfterPostfix kind seen = complete.after_postfix kind
row state.Group kind seen = complete.behind_group kind
row state.GroupParameters kind seen = complete.behind_parameters kind
row state.AsyncGroup kind seen = complete.behind_async_group kind
row state.AsyncGroupParameters kind seen = complete.behind_async_parameters kind seen.typescript
row state.Async kind seen = complete.behind_async kind seen.had_line_break seen.typescript
row state.AsyncStatement kind seen = complete.behind_async_statement kind seen.had_line_break seen.typescript
row state.AsyncAs kind seen = complete.behind_async_as kind
row state.AsyncParameter kind seen = complete.behind_async_name kind
row state.TypeParameter kind seen = complete.type_parameter kind seen.top
row state.AsyncTypeArguments kind seen = complete.behind_async_type_arguments kind
row state.TypeArguments kind seen = complete.behind_type_arguments kind seen.had_line_break seen.top
row state.FunctionTypeArguments kind seen = complete.behind_function_type_arguments kind
row state.ImportExpression kind seen = complete.import_expression kind
row state.Property kind seen = complete.behind_dot kind
row state.OptionalProperty kind seen = complete.behind_optional_dot kind
row state.ArrowEnd kind seen = complete.behind_arrow_body kind
row state.TypeOperand kind seen = types.type_operand kind
row state.TypeEnd kind seen = types.behind_type kind seen.had_line_break seen.top
row state.TypeName kind seen = types.behind_type_name kind seen.had_line_break seen.top
row state.TypeParameters kind seen = types.behind_type_parameters kind seen.had_line_break seen.top
row state.Asserts kind seen = types.behind_asserts kind seen.had_line_break
row state.TypeProperty kind seen = types.behind_type_dot kind
row state.TypeParen kind seen = types.in_type_paren kind
row state.TypeParenName kind seen = types.behind_type_paren_name kind
row state.TypeBrackets kind seen = types.in_type_brackets kind

-- an operand is expected or complete
abbrev pub is_of_operands : State → Bool
is_of_operands state.Operand = true
is_of_operands state.Conditional = true
is_of_operands state.ArrowBody = true
is_of_operands state.Quasi = true
is_of_operands state.After = true
is_of_operands state.AfterPostfix = true
is_of_operands state.Group = true
is_of_operands state.GroupParameters = true
is_of_operands state.AsyncGroup = true
is_of_operands state.AsyncGroupParameters = true
is_of_operands state.Async = true
is_of_operands state.AsyncStatement = true
is_of_operands state.AsyncAs = true
is_of_operands state.AsyncParameter = true
is_of_operands state.TypeParameter = true
is_of_operands state.AsyncTypeArguments = true
is_of_operands state.TypeArguments = true
is_of_operands state.FunctionTypeArguments = true
is_of_operands state.ImportExpression = true
is_of_operands state.Property = true
is_of_operands state.OptionalProperty = true
is_of_operands state.ArrowEnd = true
is_of_operands other = false

-- the head or body of a function, a class or an object, or a type, is read
abbrev pub is_of_parts : State → Bool
is_of_parts state.Head = true
is_of_parts state.HeadEnd = true
is_of_parts state.ClassHead = true
is_of_parts state.Member = true
is_of_parts state.MemberAsync = true
is_of_parts state.Key = true
is_of_parts state.KeyAsync = true
is_of_parts state.KeyComma = true
is_of_parts state.KeyCommaName = true
is_of_parts state.KeyCommaParameter = true
is_of_parts state.AliasHead = true
is_of_parts state.InterfaceHead = true
is_of_parts state.Decorator = true
is_of_parts state.AfterDecorator = true
is_of_parts state.TypeOperand = true
is_of_parts state.TypeEnd = true
is_of_parts state.TypeName = true
is_of_parts state.TypeParameters = true
is_of_parts state.Asserts = true
is_of_parts state.TypeProperty = true
is_of_parts state.TypeParen = true
is_of_parts state.TypeParenName = true
is_of_parts state.TypeBrackets = true
is_of_parts other = false
