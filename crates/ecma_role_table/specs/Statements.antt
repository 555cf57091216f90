-- Where a statement begins, and the heads of statements: the rows of the table, one a clause
use Rattle.std.specs.Prelude.{Bool, false, if◌then◌else◌}
use Rattle.ecma_role_table.specs.declared.part.PartKind.{PartKind}
use Rattle.ecma_role_table.specs.declared.part.Name as names
use Rattle.ecma_role_table.specs.declared.part.Reserved as words
use Rattle.ecma_role_table.specs.declared.part.Sign as signs
use Rattle.ecma_role_table.specs.declared.part.PartKind.TheVariants.{Name, Reserved, Sign}
use Rattle.ecma_role_table.specs.declared.part.Name.TheVariants as name
use Rattle.ecma_role_table.specs.declared.part.Reserved.TheVariants as reserved
use Rattle.ecma_role_table.specs.declared.part.Sign.TheVariants as sign
use Rattle.ecma_role_table.specs.declared.frame.Around.{Around}
use Rattle.ecma_role_table.specs.declared.frame.FrameKind.TheVariants as frame
use Rattle.ecma_role_table.specs.declared.state.State.TheVariants as state
use Rattle.ecma_role_table.specs.declared.moves.Move.{Move}
use Rattle.ecma_role_table.specs.declared.moves.Move.TheVariants.{Again, Fresh, Semi, To}
use Rattle.ecma_role_table.specs.declared.moves.Change.TheVariants.{Enter, ModuleCode, Nothing, Pop, Push}

-- a name where a statement begins
abbrev pub statement_name : names.Name → Around → Move
statement_name name.Async around = To state.AsyncStatement Nothing
statement_name name.Let around = To state.MaybeLet Nothing
statement_name name.Interface around = To state.MaybeInterface Nothing
statement_name name.TypeWord around = To state.MaybeType Nothing
statement_name name.Yield around = if around.is_generator then To state.Restricted Nothing else To state.Label Nothing
statement_name name.Await around = if around.is_async then To state.Operand Nothing else To state.Label Nothing
statement_name _ around = To state.Label Nothing

-- a reserved word where a statement begins
abbrev pub statement_word : words.Reserved → Move
statement_word reserved.Function = To state.Head (Enter frame.FunctionHead false)
statement_word reserved.Class = To state.ClassHead (Push frame.ClassHead)
statement_word reserved.Declare = To state.Binding (Push frame.Declaration)
statement_word reserved.Enum = To state.EnumHead Nothing
statement_word reserved.Import = To state.ImportStart Nothing
statement_word reserved.Export = To state.Export ModuleCode
statement_word reserved.Control = To state.Control Nothing
statement_word reserved.With = To state.Control Nothing
statement_word reserved.For = To state.ForKeyword Nothing
statement_word reserved.BeforeStatement = To state.Statement Nothing
statement_word reserved.Return = To state.Restricted Nothing
statement_word reserved.Break = To state.Break Nothing
statement_word reserved.Case = To state.Operand (Push frame.Case)
statement_word reserved.Default = To state.Default Nothing
statement_word _ = Again state.Operand Nothing

-- a sign where a statement begins
abbrev pub statement_sign : signs.Sign → Move
statement_sign sign.LBrace = To state.Statement (Push frame.Block)
statement_sign sign.Semi = Semi
statement_sign sign.At = To state.Decorator (Push frame.StatementDecorator)
statement_sign sign.Shebang = To state.Statement Nothing
statement_sign _ = Again state.Operand Nothing

-- a statement begins (ECMA-262, 14)
unfoldable pub statement : PartKind → Around → Move
statement (Name n) around = statement_name n around
statement (Reserved r) around = statement_word r
statement (Sign s) around = statement_sign s

-- behind `export default`, a declaration or an expression begins (ECMA-262, 16.2.3)
abbrev pub export_default : PartKind → Around → Move
export_default (Name name.Let) around = Again state.Operand Nothing
export_default (Name name.TypeWord) around = Again state.Operand Nothing
export_default (Reserved reserved.Import) around = Again state.Operand Nothing
export_default (Sign sign.LBrace) around = Again state.Operand Nothing
export_default kind around = statement kind around

-- behind `return`, `throw` or `yield`, which a line break ends (ECMA-262, 12.10.1)
abbrev pub restricted : PartKind → Bool → Move
restricted (Sign sign.RBrace) had_line_break = Again state.Operand Nothing
restricted (Sign sign.RParen) had_line_break = Again state.After Nothing
restricted (Sign sign.RBracket) had_line_break = Again state.Operand Nothing
restricted (Sign sign.Comma) had_line_break = Again state.Operand Nothing
restricted (Sign sign.Colon) had_line_break = Again state.Operand Nothing
restricted (Sign sign.Semi) had_line_break = Again state.Operand Nothing
restricted kind had_line_break = if had_line_break then Fresh else Again state.Operand Nothing

-- behind `break` or `continue`, with or without a label (ECMA-262, 14.8, 14.9)
abbrev pub behind_break : PartKind → Bool → Move
behind_break (Name n) had_line_break = if had_line_break then Fresh else To state.Statement Nothing
behind_break kind had_line_break = Fresh

-- behind `default` in a `switch` (ECMA-262, 14.12)
abbrev pub behind_default : PartKind → Move
behind_default (Sign sign.Colon) = To state.Statement Nothing
behind_default kind = Again state.After Nothing

-- before the parentheses of a statement (ECMA-262, 14.6, 14.7, 14.11, 14.12)
abbrev pub before_control : PartKind → Move
before_control (Sign sign.LParen) = To state.Operand (Push frame.Control)
before_control kind = Again state.Statement Nothing

-- behind `for` (ECMA-262, 14.7.4, 14.7.5)
abbrev pub behind_for : PartKind → Move
behind_for (Name name.Await) = To state.ForKeyword Nothing
behind_for (Sign sign.LParen) = To state.ForHead (Push frame.For)
behind_for kind = Again state.Statement Nothing

-- the head of a `for` begins (ECMA-262, 14.7.4, 14.7.5)
abbrev pub for_head : PartKind → Move
for_head (Name name.Let) = To state.MaybeLet Nothing
for_head (Reserved reserved.Declare) = To state.Binding (Push frame.Declaration)
for_head kind = Again state.Operand Nothing

-- behind `let`, a word or a name (ECMA-262, 14.3.1)
abbrev pub behind_let : PartKind → Move
behind_let (Name n) = Again state.Binding (Push frame.Declaration)
behind_let (Reserved reserved.Enum) = Again state.Binding (Push frame.Declaration)
behind_let (Sign sign.LBrace) = Again state.Binding (Push frame.Declaration)
behind_let (Sign sign.LBracket) = Again state.Binding (Push frame.Declaration)
behind_let kind = Again state.Label Nothing

-- behind `type`, a word of TypeScript or a name
abbrev pub behind_type_word : PartKind → Bool → Move
behind_type_word (Name n) had_line_break = if had_line_break then Again state.Label Nothing else To state.AliasHead (Push frame.AliasHead)
behind_type_word kind had_line_break = Again state.Label Nothing

-- behind `interface`, a word of TypeScript or a name
abbrev pub behind_interface_word : PartKind → Bool → Move
behind_interface_word (Name n) had_line_break = if had_line_break then Again state.Label Nothing else To state.InterfaceHead (Push frame.InterfaceHead)
behind_interface_word kind had_line_break = Again state.Label Nothing

-- the head of an enumeration of TypeScript
abbrev pub enum_head : PartKind → Move
enum_head (Name n) = To state.EnumHead Nothing
enum_head (Reserved r) = To state.EnumHead Nothing
enum_head (Sign sign.LBrace) = To state.Key (Push frame.Enum)
enum_head kind = Again state.Statement Nothing

-- a name or pattern that is declared (ECMA-262, 14.3)
abbrev pub binding : PartKind → Move
binding (Reserved reserved.Enum) = To state.EnumHead Pop
binding (Name n) = To state.AfterBinding Nothing
binding (Reserved r) = To state.AfterBinding Nothing
binding (Sign sign.LBrace) = Again state.Operand Nothing
binding (Sign sign.LBracket) = Again state.Operand Nothing
binding kind = Again state.After Nothing

-- behind a name that is declared: an initializer, or the end (ECMA-262, 14.3)
abbrev pub behind_binding : PartKind → Bool → Move
behind_binding (Sign sign.Bang) had_line_break = if had_line_break then Fresh else To state.AfterBinding Nothing
behind_binding (Sign sign.Comma) had_line_break = Again state.After Nothing
behind_binding (Sign sign.Semi) had_line_break = Again state.After Nothing
behind_binding (Sign sign.Colon) had_line_break = Again state.After Nothing
behind_binding (Sign sign.RParen) had_line_break = Again state.After Nothing
behind_binding (Sign sign.RBracket) had_line_break = Again state.After Nothing
behind_binding (Sign sign.RBrace) had_line_break = Again state.After Nothing
behind_binding (Sign sign.Assign) had_line_break = Again state.After Nothing
behind_binding (Reserved reserved.In) had_line_break = Again state.After Nothing
behind_binding (Name name.Of) had_line_break = Again state.After Nothing
behind_binding kind had_line_break = Fresh

-- behind a name that a statement begins with: a label or an operand (ECMA-262, 14.13)
abbrev pub behind_first_name : PartKind → Move
behind_first_name (Sign sign.Colon) = To state.Statement Nothing
behind_first_name kind = Again state.After Nothing
