-- Types, of which only brackets and ends matter: the rows of the table, one a clause
use Rattle.std.specs.Prelude.{Bool, false, true, Option, if◌then◌else◌}
use Rattle.ecma_role_table.specs.declared.part.PartKind.{PartKind}
use Rattle.ecma_role_table.specs.declared.part.PartKind.TheVariants.{Name, Reserved, Sign}
use Rattle.ecma_role_table.specs.declared.part.Name.TheVariants as name
use Rattle.ecma_role_table.specs.declared.part.Reserved.TheVariants as reserved
use Rattle.ecma_role_table.specs.declared.part.Sign.TheVariants as sign
use Rattle.ecma_role_table.specs.declared.frame.FrameKind.{FrameKind}
use Rattle.ecma_role_table.specs.declared.frame.FrameKind.TheVariants as frame
use Rattle.ecma_role_table.specs.declared.state.State.TheVariants as state
use Rattle.ecma_role_table.specs.declared.moves.Move.{Move}
use Rattle.ecma_role_table.specs.declared.moves.Move.TheVariants.{Again, Brace, Bracket, EndType, Paren, To, TypeGreater}
use Rattle.ecma_role_table.specs.declared.moves.Change.TheVariants.{Nothing, Pop, Push, PushTwo, Turn}
use Rattle.ecma_role_table.specs.declared.moves.Angles.TheVariants as angles
use Rattle.ecma_role_table.specs.Frames.{over_type_conditional, over_type_extends}

-- a type is expected
abbrev pub type_operand : PartKind → Move
type_operand (Sign sign.LParen) = To state.TypeParen (Push frame.OuterParen)
type_operand (Sign sign.LBracket) = To state.TypeBrackets (Push frame.OuterBracket)
type_operand (Sign sign.LBrace) = To state.TypeBrackets (Push frame.OuterBrace)
type_operand (Sign sign.BackQuote) = To state.Quasi (Push frame.OuterTemplate)
type_operand (Sign sign.Lt) = To state.TypeBrackets (Push frame.ParametersAngle)
type_operand (Sign sign.Literal) = To state.TypeEnd Nothing
type_operand (Sign sign.BitOr) = To state.TypeOperand Nothing
type_operand (Sign sign.BitAnd) = To state.TypeOperand Nothing
type_operand (Sign sign.DotDotDot) = To state.TypeOperand Nothing
type_operand (Sign sign.Minus) = To state.TypeOperand Nothing
type_operand (Sign sign.Dot) = To state.TypeOperand Nothing
type_operand (Sign sign.Hash) = To state.TypeOperand Nothing
type_operand (Name name.Asserts) = To state.Asserts Nothing
type_operand (Name name.TypeOperator) = To state.TypeOperand Nothing
type_operand (Reserved reserved.Typeof) = To state.TypeOperand Nothing
type_operand (Reserved reserved.New) = To state.TypeOperand Nothing
type_operand (Reserved reserved.Import) = To state.TypeOperand Nothing
type_operand (Name name.PredefinedType) = To state.TypeEnd Nothing
type_operand (Reserved reserved.Void) = To state.TypeEnd Nothing
type_operand (Reserved reserved.This) = To state.TypeEnd Nothing
type_operand (Reserved reserved.Constant) = To state.TypeEnd Nothing
type_operand (Name n) = To state.TypeName Nothing
type_operand (Reserved r) = To state.TypeName Nothing
type_operand kind = EndType

-- a type is complete
abbrev pub behind_type : PartKind → Bool → Option FrameKind → Move
behind_type (Sign sign.BitOr) had_line_break top = To state.TypeOperand Nothing
behind_type (Sign sign.BitAnd) had_line_break top = To state.TypeOperand Nothing
behind_type (Sign sign.Dot) had_line_break top = To state.TypeProperty Nothing
behind_type (Sign sign.LBracket) had_line_break top = if had_line_break then EndType else To state.TypeBrackets (Push frame.OuterBracket)
behind_type (Sign sign.QuestionMark) had_line_break top = if over_type_extends top then To state.TypeOperand (Turn frame.TypeConditional) else EndType
behind_type (Sign sign.Colon) had_line_break top = if over_type_conditional top then To state.TypeOperand Pop else EndType
behind_type (Reserved reserved.Extends) had_line_break top = if had_line_break then EndType else To state.TypeOperand (Push frame.TypeExtends)
behind_type (Name name.Is) had_line_break top = if had_line_break then EndType else To state.TypeOperand Nothing
behind_type (Reserved reserved.New) had_line_break top = if had_line_break then EndType else To state.TypeOperand Nothing
behind_type kind had_line_break top = EndType

-- a type is complete that is a name, which may have type arguments
abbrev pub behind_type_name : PartKind → Bool → Option FrameKind → Move
behind_type_name (Sign sign.Lt) had_line_break top = if had_line_break then EndType else To state.TypeBrackets (Push frame.OuterAngle)
behind_type_name (Sign sign.LShift) had_line_break top = if had_line_break then EndType else To state.TypeBrackets (PushTwo frame.OuterAngle frame.InnerAngle)
behind_type_name kind had_line_break top = behind_type kind had_line_break top

-- a type is complete, or the parameters of a function type are
abbrev pub behind_type_parameters : PartKind → Bool → Option FrameKind → Move
behind_type_parameters (Sign sign.Arrow) had_line_break top = To state.TypeOperand Nothing
behind_type_parameters kind had_line_break top = behind_type kind had_line_break top

-- behind `asserts` in a type
abbrev pub behind_asserts : PartKind → Bool → Move
behind_asserts (Reserved reserved.This) had_line_break = To state.TypeName Nothing
behind_asserts (Name name.Is) had_line_break = Again state.TypeName Nothing
behind_asserts (Name n) had_line_break = if had_line_break then Again state.TypeName Nothing else To state.TypeName Nothing
behind_asserts kind had_line_break = Again state.TypeName Nothing

-- behind a dot in a type
abbrev pub behind_type_dot : PartKind → Move
behind_type_dot (Name n) = To state.TypeName Nothing
behind_type_dot (Reserved r) = To state.TypeName Nothing
behind_type_dot (Sign sign.Hash) = To state.TypeProperty Nothing
behind_type_dot kind = Again state.TypeName Nothing

-- a parenthesis of a type begins: a group or parameters
abbrev pub in_type_paren : PartKind → Move
in_type_paren (Name n) = To state.TypeParenName Nothing
in_type_paren (Reserved reserved.This) = To state.TypeParenName Nothing
in_type_paren (Sign sign.RParen) = Again state.TypeBrackets (Turn frame.OuterParameters)
in_type_paren (Sign sign.DotDotDot) = Again state.TypeBrackets (Turn frame.OuterParameters)
in_type_paren (Sign sign.LBrace) = Again state.TypeBrackets (Turn frame.OuterPattern)
in_type_paren (Sign sign.LBracket) = Again state.TypeBrackets (Turn frame.OuterPattern)
in_type_paren kind = Again state.TypeBrackets Nothing

-- behind a name there
abbrev pub behind_type_paren_name : PartKind → Move
behind_type_paren_name (Sign sign.Colon) = Again state.TypeBrackets (Turn frame.OuterParameters)
behind_type_paren_name (Sign sign.Comma) = Again state.TypeBrackets (Turn frame.OuterParameters)
behind_type_paren_name (Sign sign.QuestionMark) = Again state.TypeBrackets (Turn frame.OuterParameters)
behind_type_paren_name (Sign sign.Assign) = Again state.TypeBrackets (Turn frame.OuterParameters)
behind_type_paren_name (Sign sign.RParen) = Again state.TypeBrackets (Turn frame.OuterParameters)
behind_type_paren_name kind = Again state.TypeBrackets Nothing

-- in the brackets of a type, of which only the brackets matter
abbrev pub in_type_brackets : PartKind → Move
in_type_brackets (Sign sign.LParen) = To state.TypeBrackets (Push frame.InnerParen)
in_type_brackets (Sign sign.LBracket) = To state.TypeBrackets (Push frame.InnerBracket)
in_type_brackets (Sign sign.LBrace) = To state.TypeBrackets (Push frame.InnerBrace)
in_type_brackets (Sign sign.Lt) = To state.TypeBrackets (Push frame.InnerAngle)
in_type_brackets (Sign sign.LShift) = To state.TypeBrackets (PushTwo frame.InnerAngle frame.InnerAngle)
in_type_brackets (Sign sign.BackQuote) = To state.Quasi (Push frame.InnerTemplate)
in_type_brackets (Sign sign.RParen) = Paren
in_type_brackets (Sign sign.RBracket) = Bracket
in_type_brackets (Sign sign.RBrace) = Brace
in_type_brackets (Sign sign.Gt) = TypeGreater angles.One false
in_type_brackets (Sign sign.RShift) = TypeGreater angles.Two false
in_type_brackets (Sign sign.ZeroFillRShift) = TypeGreater angles.Three false
in_type_brackets (Sign sign.GtEq) = TypeGreater angles.One true
in_type_brackets (Sign sign.RShiftEq) = TypeGreater angles.Two true
in_type_brackets (Sign sign.ZeroFillRShiftEq) = TypeGreater angles.Three true
in_type_brackets kind = To state.TypeBrackets Nothing
