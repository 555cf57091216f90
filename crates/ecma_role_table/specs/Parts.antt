-- What is seen of a token, by its kind
use Rattle.std.specs.Prelude.{Bool}
use Rattle.ecma_word.specs.declared.keyword.Keyword.{Keyword}
use Rattle.ecma_word.specs.declared.keyword.Keyword.TheVariants as keyword
use Rattle.ecma_word.specs.declared.known_ident.KnownIdent.{KnownIdent}
use Rattle.ecma_word.specs.declared.known_ident.KnownIdent.TheVariants as known
use Rattle.ecma_word.specs.declared.word.WordKind.{WordKind}
use Rattle.ecma_word.specs.declared.word.WordKind.TheVariants as word
use Rattle.ecma_word.specs.declared.word.IdentKind.TheVariants as ident
use Rattle.ecma_word.specs.declared.operator.BinOpToken.{BinOpToken}
use Rattle.ecma_word.specs.declared.operator.BinOpToken.TheVariants as binary
use Rattle.ecma_word.specs.declared.operator.AssignOp.{AssignOp}
use Rattle.ecma_word.specs.declared.operator.AssignOp.TheVariants as assigning
use Rattle.ecma_token_kind.specs.declared.kind.TokenKind.{TokenKind}
use Rattle.ecma_token_kind.specs.declared.kind.TokenKind.TheVariants as kind
use Rattle.ecma_role_table.specs.declared.part.Part.{Part}
use Rattle.ecma_role_table.specs.declared.part.PartKind.{PartKind}
use Rattle.ecma_role_table.specs.declared.part.PartKind.TheVariants as part
use Rattle.ecma_role_table.specs.declared.part.Name.TheVariants as name
use Rattle.ecma_role_table.specs.declared.part.Reserved.TheVariants as reserved
use Rattle.ecma_role_table.specs.declared.part.Sign.{Sign}
use Rattle.ecma_role_table.specs.declared.part.Sign.TheVariants as sign

-- a keyword
abbrev pub part_of_keyword : Keyword → PartKind
part_of_keyword keyword.Await = part.Name name.Await
part_of_keyword keyword.Yield = part.Name name.Yield
part_of_keyword keyword.Let = part.Name name.Let
part_of_keyword keyword.Break = part.Reserved reserved.Break
part_of_keyword keyword.Continue = part.Reserved reserved.Break
part_of_keyword keyword.Case = part.Reserved reserved.Case
part_of_keyword keyword.If = part.Reserved reserved.Control
part_of_keyword keyword.While = part.Reserved reserved.Control
part_of_keyword keyword.Switch = part.Reserved reserved.Control
part_of_keyword keyword.Catch = part.Reserved reserved.Control
part_of_keyword keyword.Debugger = part.Reserved reserved.BeforeStatement
part_of_keyword keyword.Do = part.Reserved reserved.BeforeStatement
part_of_keyword keyword.Else = part.Reserved reserved.BeforeStatement
part_of_keyword keyword.Finally = part.Reserved reserved.BeforeStatement
part_of_keyword keyword.Try = part.Reserved reserved.BeforeStatement
part_of_keyword keyword.Default_ = part.Reserved reserved.Default
part_of_keyword keyword.For = part.Reserved reserved.For
part_of_keyword keyword.Function = part.Reserved reserved.Function
part_of_keyword keyword.Return = part.Reserved reserved.Return
part_of_keyword keyword.Throw = part.Reserved reserved.Return
part_of_keyword keyword.Var = part.Reserved reserved.Declare
part_of_keyword keyword.Const = part.Reserved reserved.Declare
part_of_keyword keyword.With = part.Reserved reserved.With
part_of_keyword keyword.New = part.Reserved reserved.New
part_of_keyword keyword.This = part.Reserved reserved.This
part_of_keyword keyword.Super = part.Reserved reserved.Super
part_of_keyword keyword.Class = part.Reserved reserved.Class
part_of_keyword keyword.Extends = part.Reserved reserved.Extends
part_of_keyword keyword.Export = part.Reserved reserved.Export
part_of_keyword keyword.Import = part.Reserved reserved.Import
part_of_keyword keyword.In = part.Reserved reserved.In
part_of_keyword keyword.InstanceOf = part.Reserved reserved.InstanceOf
part_of_keyword keyword.TypeOf = part.Reserved reserved.Typeof
part_of_keyword keyword.Void = part.Reserved reserved.Void
part_of_keyword keyword.Delete = part.Reserved reserved.Delete

-- a known name
abbrev pub part_of_known : KnownIdent → PartKind
part_of_known known.Enum = part.Reserved reserved.Enum
part_of_known known.Async = part.Name name.Async
part_of_known known.Interface = part.Name name.Interface
part_of_known known.Type_ = part.Name name.TypeWord
part_of_known known.As = part.Name name.As
part_of_known known.Satisfies = part.Name name.Satisfies
part_of_known known.Of = part.Name name.Of
part_of_known known.Implements = part.Name name.Implements
part_of_known known.Asserts = part.Name name.Asserts
part_of_known known.Is = part.Name name.Is
part_of_known known.From = part.Name name.From
part_of_known known.Assert = part.Name name.Assert
part_of_known known.Get = part.Name name.Accessor
part_of_known known.Set = part.Name name.Accessor
part_of_known known.Keyof = part.Name name.TypeOperator
part_of_known known.Readonly = part.Name name.TypeOperator
part_of_known known.Unique = part.Name name.TypeOperator
part_of_known known.Infer = part.Name name.TypeOperator
part_of_known known.Any = part.Name name.PredefinedType
part_of_known known.Unknown = part.Name name.PredefinedType
part_of_known known.String = part.Name name.PredefinedType
part_of_known known.Number = part.Name name.PredefinedType
part_of_known known.Bigint = part.Name name.PredefinedType
part_of_known known.Symbol = part.Name name.PredefinedType
part_of_known known.Boolean = part.Name name.PredefinedType
part_of_known known.Undefined = part.Name name.PredefinedType
part_of_known known.Never = part.Name name.PredefinedType
part_of_known known.Object = part.Name name.PredefinedType
part_of_known other = part.Name name.Other

-- a word
abbrev pub part_of_word : WordKind → PartKind
part_of_word (word.Keyword keyword) = part_of_keyword keyword
part_of_word word.Null = part.Reserved reserved.Constant
part_of_word word.True = part.Reserved reserved.Constant
part_of_word word.False = part.Reserved reserved.Constant
part_of_word (word.Ident (ident.Known known)) = part_of_known known
part_of_word (word.Ident ident.Other) = part.Name name.Other

-- an operator between two operands
abbrev pub sign_of_operator : BinOpToken → Sign
sign_of_operator binary.Mul = sign.Star
sign_of_operator binary.Lt = sign.Lt
sign_of_operator binary.LShift = sign.LShift
sign_of_operator binary.Gt = sign.Gt
sign_of_operator binary.RShift = sign.RShift
sign_of_operator binary.ZeroFillRShift = sign.ZeroFillRShift
sign_of_operator binary.GtEq = sign.GtEq
sign_of_operator binary.BitOr = sign.BitOr
sign_of_operator binary.BitAnd = sign.BitAnd
sign_of_operator binary.Sub = sign.Minus
sign_of_operator other = sign.Operator

-- an operator that assigns
abbrev pub sign_of_assign : AssignOp → Sign
sign_of_assign assigning.Assign = sign.Assign
sign_of_assign assigning.RShiftAssign = sign.RShiftEq
sign_of_assign assigning.ZeroFillRShiftAssign = sign.ZeroFillRShiftEq
sign_of_assign other = sign.Operator

-- a token
abbrev pub part_of_kind : TokenKind → PartKind
part_of_kind (kind.Word word) = part_of_word word
part_of_kind (kind.BinOp operator) = part.Sign (sign_of_operator operator)
part_of_kind (kind.AssignOp operator) = part.Sign (sign_of_assign operator)
part_of_kind kind.Arrow = part.Sign sign.Arrow
part_of_kind kind.Hash = part.Sign sign.Hash
part_of_kind kind.At = part.Sign sign.At
part_of_kind kind.Dot = part.Sign sign.Dot
part_of_kind kind.DotDotDot = part.Sign sign.DotDotDot
part_of_kind kind.Bang = part.Sign sign.Bang
part_of_kind kind.LParen = part.Sign sign.LParen
part_of_kind kind.RParen = part.Sign sign.RParen
part_of_kind kind.LBracket = part.Sign sign.LBracket
part_of_kind kind.RBracket = part.Sign sign.RBracket
part_of_kind kind.LBrace = part.Sign sign.LBrace
part_of_kind kind.RBrace = part.Sign sign.RBrace
part_of_kind kind.Semi = part.Sign sign.Semi
part_of_kind kind.Comma = part.Sign sign.Comma
part_of_kind kind.BackQuote = part.Sign sign.BackQuote
part_of_kind kind.Template = part.Sign sign.Template
part_of_kind kind.Colon = part.Sign sign.Colon
part_of_kind kind.DollarLBrace = part.Sign sign.DollarLBrace
part_of_kind kind.QuestionMark = part.Sign sign.QuestionMark
part_of_kind kind.PlusPlus = part.Sign sign.Update
part_of_kind kind.MinusMinus = part.Sign sign.Update
part_of_kind kind.Tilde = part.Sign sign.Tilde
part_of_kind kind.Regex = part.Sign sign.Regex
part_of_kind kind.Str = part.Sign sign.Literal
part_of_kind kind.Num = part.Sign sign.Literal
part_of_kind kind.BigInt = part.Sign sign.Literal
part_of_kind kind.Error = part.Sign sign.Literal
part_of_kind kind.Shebang = part.Sign sign.Shebang
part_of_kind kind.JSXName = part.Sign sign.Operator
part_of_kind kind.JSXText = part.Sign sign.Operator
part_of_kind kind.JSXTagStart = part.Sign sign.Operator
part_of_kind kind.JSXTagEnd = part.Sign sign.Operator

-- a token of this kind, with or without a line terminator before it
abbrev pub part_of : TokenKind → Bool → Part
part_of kind had_line_break = record { kind = part_of_kind kind; had_line_break = had_line_break }
