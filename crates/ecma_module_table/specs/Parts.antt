-- What a token is to imports and exports
use Rattle.std.specs.Prelude.{ℕ, ◌+◌, ◌-◌, ◌==◌, Bool, true, false, not, nat_lt, if◌then◌else◌}
use Rattle.ecma_span.specs.declared.place.Span.{Span}
use Rattle.ecma_word.specs.declared.keyword.Keyword.{Keyword}
use Rattle.ecma_word.specs.declared.keyword.Keyword.TheVariants as keyword
use Rattle.ecma_word.specs.declared.known_ident.KnownIdent.{KnownIdent}
use Rattle.ecma_word.specs.declared.known_ident.KnownIdent.TheVariants as known
use Rattle.ecma_word.specs.declared.word.WordKind.{WordKind}
use Rattle.ecma_word.specs.declared.word.WordKind.TheVariants as a_word
use Rattle.ecma_word.specs.declared.word.IdentKind.TheVariants as ident
use Rattle.ecma_word.specs.declared.operator.BinOpToken.{BinOpToken}
use Rattle.ecma_word.specs.declared.operator.BinOpToken.TheVariants as binary
use Rattle.ecma_word.specs.declared.operator.AssignOp.TheVariants as assigning
use Rattle.ecma_token_kind.specs.declared.kind.TokenKind.{TokenKind}
use Rattle.ecma_token_kind.specs.declared.kind.TokenKind.TheVariants as kind
use Rattle.ecma_token_kind.specs.Questions.{before_expr}
use Rattle.ecma_module_table.specs.declared.part.Part.{Part}
use Rattle.ecma_module_table.specs.declared.part.Part.TheVariants as part
use Rattle.ecma_module_table.specs.declared.part.Word.{Word}
use Rattle.ecma_module_table.specs.declared.part.Word.TheVariants as word

abbrev pub keyword_of : Keyword → Word
keyword_of keyword.Import = word.Import
keyword_of keyword.Export = word.Export
keyword_of keyword.Default_ = word.Default
keyword_of keyword.With = word.With
keyword_of keyword.Function = word.Function
keyword_of keyword.Class = word.Class
keyword_of keyword.Extends = word.Heritage
keyword_of keyword.Var = word.Variable
keyword_of keyword.Let = word.Variable
keyword_of keyword.Const = word.Variable
keyword_of keyword.In = word.Operator
keyword_of keyword.InstanceOf = word.Operator
keyword_of k = word.Other

abbrev pub known_of : KnownIdent → Word
known_of known.From = word.From
known_of known.As = word.As
known_of known.Type_ = word.Type
known_of known.Assert = word.Assert
known_of known.Meta = word.Meta
known_of known.Require = word.Require
known_of known.Declare = word.Declare
known_of known.Abstract = word.Abstract
known_of known.Async = word.Async
known_of known.Namespace = word.Namespace
known_of known.Interface = word.Interface
known_of known.Enum = word.Enum
known_of known.Implements = word.Heritage
known_of name = word.Other

-- a name that is no known one, by the bytes that it takes
abbrev pub name_of : ℕ → Word
name_of bytes = if bytes == 5 then word.OfFive else (if bytes == 6 then word.OfSix else word.Other)

abbrev pub word_of : WordKind → Span → Word
word_of (a_word.Keyword k) span = keyword_of k
word_of (a_word.Ident (ident.Known known)) span = known_of known
word_of (a_word.Ident ident.Other) span = name_of (span.hi.0 - span.lo.0)
word_of w span = word.Other

abbrev pub operator_of : BinOpToken → Part
operator_of binary.Mul = part.Star
operator_of binary.Lt = part.Less
operator_of binary.Gt = part.Greater 1
operator_of binary.RShift = part.Greater 2
operator_of binary.ZeroFillRShift = part.Greater 3
operator_of operator = part.Other

-- what a token of this kind is that lies there
abbrev pub part_of : TokenKind → Span → Part
part_of (kind.Word w) span = part.Word (word_of w span)
part_of (kind.BinOp operator) span = operator_of operator
part_of (kind.AssignOp assigning.Assign) span = part.Equals
part_of kind.Str span = part.Text
part_of kind.Num span = part.Number
part_of kind.BigInt span = part.Number
part_of kind.LParen span = part.Paren
part_of kind.LBrace span = part.Brace
part_of kind.LBracket span = part.Bracket
part_of kind.DollarLBrace span = part.Substitution
part_of kind.RParen span = part.EndParen
part_of kind.RBrace span = part.EndBrace
part_of kind.RBracket span = part.EndBracket
part_of kind.Comma span = part.Comma
part_of kind.Semi span = part.Semi
part_of kind.Colon span = part.Colon
part_of kind.Dot span = part.Member
part_of kind.Hash span = part.Member
part_of kind.DotDotDot span = part.Spread
part_of kind.At span = part.At
part_of kind.Bang span = part.Bang
part_of kind.Shebang span = part.Shebang
part_of kind span = part.Other

-- it closes brackets
abbrev pub closes : Part → Bool
closes part.EndParen = true
closes part.EndBrace = true
closes part.EndBracket = true
closes p = false

-- one more, up to the greatest number of 64 bits
abbrev pub more : ℕ → ℕ
more count = if nat_lt count 18_446_744_073_709_551_615 then count + 1 else count

-- how many brackets are open behind a token
abbrev pub next_depth : Part → ℕ → ℕ
next_depth part.Paren depth = more depth
next_depth part.Brace depth = more depth
next_depth part.Bracket depth = more depth
next_depth part.Substitution depth = more depth
next_depth part.EndParen depth = depth - 1
next_depth part.EndBrace depth = depth - 1
next_depth part.EndBracket depth = depth - 1
next_depth p depth = depth

-- a token of this kind ends an operand
abbrev pub ends_operand : TokenKind → Bool
ends_operand kind.PlusPlus = true
ends_operand kind.MinusMinus = true
ends_operand k = not (before_expr k)
