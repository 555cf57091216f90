-- Tokens of a program as a grammar sees them, and the role of a slash
use Rattle.std.specs.Prelude.{Bool, true, false, List, map, Option, Some, None}
use Rattle.ecma_word.specs.declared.operator.BinOpToken.TheVariants as binary
use Rattle.ecma_word.specs.declared.operator.AssignOp.TheVariants as assigning
use Rattle.ecma_token_kind.specs.declared.kind.TokenKind.{TokenKind}
use Rattle.ecma_token_kind.specs.declared.kind.TokenKind.TheVariants as kind
use Rattle.ecma_role_table.specs.declared.part.Part.{Part}
use Rattle.ecma_role_table.specs.Parts.{part_of}

-- a token by its kind, with or without a line terminator before it
pub record Token : Type 0 where
  pub kind : TokenKind
  pub had_line_break : Bool

abbrev pub token : TokenKind → Bool → Token
token kind had_line_break = record { kind = kind; had_line_break = had_line_break }

-- what is seen of it where roles are tracked
abbrev pub part : Token → Part
part x = part_of x.kind x.had_line_break

abbrev pub parts : List Token → List Part
parts xs = map part xs

-- a slash begins a regular expression, or it divides (ECMA-262, 12.1: the goals InputElementRegExp and InputElementDiv)
pub data Role : Type 0 where
  RegularExpression : Role
  Division : Role

abbrev pub begins_operand : Role → Bool
begins_operand RegularExpression = true
begins_operand Division = false

-- the role of the slash that a token begins with, where `=` stands right behind that slash or not: a regular expression
-- may begin with `/=` too
abbrev pub role_of : TokenKind → Bool → Option Role
role_of kind.Regex is_assign = Some RegularExpression
role_of (kind.BinOp binary.Div) false = Some Division
role_of (kind.AssignOp assigning.DivAssign) true = Some Division
role_of kind is_assign = None
