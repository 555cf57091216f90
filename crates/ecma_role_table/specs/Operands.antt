-- Where an operand is expected: the rows of the table, one a clause
use Rattle.std.specs.Prelude.{Bool, false, Option, if◌then◌else◌}
use Rattle.ecma_role_table.specs.declared.part.PartKind.{PartKind}
use Rattle.ecma_role_table.specs.declared.part.Name as names
use Rattle.ecma_role_table.specs.declared.part.Reserved as words
use Rattle.ecma_role_table.specs.declared.part.Sign as signs
use Rattle.ecma_role_table.specs.declared.part.PartKind.TheVariants.{Name, Reserved, Sign}
use Rattle.ecma_role_table.specs.declared.part.Name.TheVariants as name
use Rattle.ecma_role_table.specs.declared.part.Reserved.TheVariants as reserved
use Rattle.ecma_role_table.specs.declared.part.Sign.TheVariants as sign
use Rattle.ecma_role_table.specs.declared.frame.Around.{Around}
use Rattle.ecma_role_table.specs.declared.frame.FrameKind.{FrameKind}
use Rattle.ecma_role_table.specs.declared.frame.FrameKind.TheVariants as frame
use Rattle.ecma_role_table.specs.declared.state.State.TheVariants as state
use Rattle.ecma_role_table.specs.declared.moves.Move.{Move}
use Rattle.ecma_role_table.specs.declared.moves.Move.TheVariants.{Again, EndTemplate, FreshWord, Substitution, To}
use Rattle.ecma_role_table.specs.declared.moves.Change.TheVariants.{DropCandidates, Enter, Nothing, Object, Parameters, Pop, Push, PushTwo, Turn}
use Rattle.ecma_role_table.specs.Frames.{over_conditional}

-- a name where an operand is expected
abbrev pub operand_name : names.Name → Around → Move
operand_name name.Await around = if around.is_async then To state.Operand Nothing else To state.After Nothing
operand_name name.Yield around = if around.is_generator then To state.Restricted Nothing else To state.After Nothing
operand_name name.Async around = To state.Async Nothing
operand_name _ around = To state.After Nothing

-- a reserved word where an operand is expected
abbrev pub operand_word : words.Reserved → Move
operand_word reserved.Typeof = To state.Operand Nothing
operand_word reserved.Void = To state.Operand Nothing
operand_word reserved.Delete = To state.Operand Nothing
operand_word reserved.New = To state.Operand Nothing
operand_word reserved.In = To state.Operand Nothing
operand_word reserved.InstanceOf = To state.Operand Nothing
operand_word reserved.Extends = To state.Operand Nothing
operand_word reserved.Function = To state.Head (Enter frame.FunctionExpressionHead false)
operand_word reserved.Class = To state.ClassHead (Push frame.ClassExpressionHead)
operand_word reserved.Import = To state.ImportExpression Nothing
operand_word reserved.Case = FreshWord
operand_word reserved.Default = FreshWord
operand_word reserved.Control = FreshWord
operand_word reserved.With = FreshWord
operand_word reserved.For = FreshWord
operand_word reserved.Return = FreshWord
operand_word reserved.Break = FreshWord
operand_word reserved.BeforeStatement = FreshWord
operand_word reserved.Declare = FreshWord
operand_word reserved.Export = FreshWord
operand_word reserved.Enum = FreshWord
operand_word _ = To state.After Nothing

-- a sign where an operand is expected
abbrev pub operand_sign : signs.Sign → Bool → Move
operand_sign sign.Literal typescript = To state.After Nothing
operand_sign sign.Regex typescript = To state.After DropCandidates
operand_sign sign.BackQuote typescript = To state.Quasi (Push frame.Template)
operand_sign sign.LParen typescript = To state.Operand (Push frame.Paren)
operand_sign sign.LBracket typescript = To state.Operand (Push frame.Bracket)
operand_sign sign.LBrace typescript = To state.Key Object
operand_sign sign.Lt typescript = if typescript then To state.TypeBrackets (Push frame.OperandAngle) else To state.Operand Nothing
operand_sign sign.LShift typescript = if typescript then To state.TypeBrackets (PushTwo frame.OperandAngle frame.InnerAngle) else To state.Operand Nothing
operand_sign sign.RParen typescript = Again state.After Parameters
operand_sign sign.RBracket typescript = Again state.After Nothing
operand_sign sign.RBrace typescript = Again state.After Nothing
operand_sign sign.Semi typescript = Again state.After Nothing
operand_sign sign.Comma typescript = Again state.After Nothing
operand_sign sign.Colon typescript = Again state.After Nothing
operand_sign sign.Dot typescript = Again state.After Nothing
operand_sign sign.Arrow typescript = Again state.After Nothing
operand_sign sign.QuestionMark typescript = Again state.After Nothing
operand_sign sign.Gt typescript = Again state.After Nothing
operand_sign sign.RShift typescript = Again state.After Nothing
operand_sign sign.ZeroFillRShift typescript = Again state.After Nothing
operand_sign sign.At typescript = To state.Decorator (Push frame.OperandDecorator)
operand_sign sign.Hash typescript = To state.Property Nothing
operand_sign _ typescript = To state.Operand Nothing

-- an operand is expected (ECMA-262, 12.1: the goal symbols that take a regular expression)
abbrev pub operand : PartKind → Around → Bool → Move
operand (Name n) around typescript = operand_name n around
operand (Reserved r) around typescript = operand_word r
operand (Sign s) around typescript = operand_sign s typescript

-- behind `?`: of a conditional, an optional chain or an optional parameter (ECMA-262, 13.14, 13.3)
abbrev pub behind_question : PartKind → Option FrameKind → Move
behind_question (Sign sign.Colon) top = if over_conditional top then Again state.After Pop else Again state.Operand Nothing
behind_question (Sign sign.Dot) top = if over_conditional top then To state.OptionalProperty Pop else Again state.Operand Nothing
behind_question kind top = Again state.Operand Nothing

-- behind `=>` (ECMA-262, 15.3)
abbrev pub arrow_body : PartKind → Move
arrow_body (Sign sign.LBrace) = To state.Statement (Turn frame.ArrowBody)
arrow_body kind = Again state.Operand Nothing

-- the text of a template (ECMA-262, 13.2.8)
abbrev pub template_text : PartKind → Move
template_text (Sign sign.DollarLBrace) = Substitution
template_text (Sign sign.BackQuote) = EndTemplate
template_text kind = To state.Quasi Nothing
