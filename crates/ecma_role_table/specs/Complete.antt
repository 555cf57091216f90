-- Where an operand is complete: the rows of the table, one a clause
use Rattle.std.specs.Prelude.{Bool, false, true, Option, Some, if◌then◌else◌}
use Rattle.ecma_role_table.specs.declared.part.PartKind.{PartKind}
use Rattle.ecma_role_table.specs.declared.part.Name as names
use Rattle.ecma_role_table.specs.declared.part.Sign as signs
use Rattle.ecma_role_table.specs.declared.part.PartKind.TheVariants.{Name, Reserved, Sign}
use Rattle.ecma_role_table.specs.declared.part.Name.TheVariants as name
use Rattle.ecma_role_table.specs.declared.part.Reserved.TheVariants as reserved
use Rattle.ecma_role_table.specs.declared.part.Sign.TheVariants as sign
use Rattle.ecma_role_table.specs.declared.frame.FrameKind.{FrameKind}
use Rattle.ecma_role_table.specs.declared.frame.FrameKind.TheVariants as frame
use Rattle.ecma_role_table.specs.declared.state.State.{State}
use Rattle.ecma_role_table.specs.declared.state.State.TheVariants as state
use Rattle.ecma_role_table.specs.declared.moves.Move.{Move}
use Rattle.ecma_role_table.specs.declared.moves.Move.TheVariants.{Again, Brace, Bracket, ClassBody, Colon, Comma, Fresh, FreshBrace, FreshOperand, Greater, Paren, Semi, To}
use Rattle.ecma_role_table.specs.declared.moves.Change.{Change}
use Rattle.ecma_role_table.specs.declared.moves.Change.TheVariants.{Arrow, DropCandidates, Enter, Nothing, Pop, Push, PushTwo, Turn}
use Rattle.ecma_role_table.specs.declared.moves.Grouping.TheVariants as grouping
use Rattle.ecma_role_table.specs.declared.moves.Angles.TheVariants as angles
use Rattle.ecma_role_table.specs.Frames.{in_arguments, over_async_candidate, over_class_head, over_declared_for, over_for}

-- a word behind an operand: in what may be type arguments one more operand, else something new
abbrev pub after_word : Bool → Option FrameKind → Option FrameKind → Move
after_word had_line_break top under = if had_line_break then Fresh else if in_arguments top under then Again state.Operand Nothing else Fresh

-- `<` behind an operand of TypeScript: less than or type arguments; behind a heritage no comparison can stand
abbrev pub after_less : Option FrameKind → Move
after_less top = if over_class_head top then To state.TypeBrackets (Push frame.ArgumentsAngle) else To state.Operand (Push frame.Candidate)

-- `<<` there: a shift, or type arguments that begin with a function type
abbrev pub after_shift : Option FrameKind → Move
after_shift top = if over_class_head top then To state.TypeBrackets (PushTwo frame.ArgumentsAngle frame.InnerAngle) else To state.Operand (PushTwo frame.Candidate frame.ParametersCandidate)

-- `=` behind an operand: behind `async <` a type parameter has a default, since no comparison is assigned to
abbrev pub equals_state : Option FrameKind → State
equals_state top = if over_async_candidate top then state.TypeBrackets else state.Operand

abbrev pub equals_change : Option FrameKind → Change
equals_change top = if over_async_candidate top then Turn frame.AsyncAngle else Nothing

abbrev pub after_equals : Option FrameKind → Move
after_equals top = To (equals_state top) (equals_change top)

-- a sign behind an operand
abbrev pub after_sign : signs.Sign → Bool → Bool → Option FrameKind → Move
after_sign sign.Dot had_line_break typescript top = To state.Property Nothing
after_sign sign.LParen had_line_break typescript top = To state.Operand (Push frame.Call)
after_sign sign.LBracket had_line_break typescript top = To state.Operand (Push frame.Bracket)
after_sign sign.LBrace had_line_break typescript top = if over_class_head top then ClassBody else FreshBrace
after_sign sign.RParen had_line_break typescript top = Paren
after_sign sign.RBracket had_line_break typescript top = Bracket
after_sign sign.RBrace had_line_break typescript top = Brace
after_sign sign.Semi had_line_break typescript top = Semi
after_sign sign.Comma had_line_break typescript top = Comma
after_sign sign.Colon had_line_break typescript top = Colon grouping.None
after_sign sign.QuestionMark had_line_break typescript top = To state.Conditional (Push frame.Conditional)
after_sign sign.Arrow had_line_break typescript top = To state.ArrowBody (Arrow false)
after_sign sign.Update had_line_break typescript top = if had_line_break then FreshOperand else To state.AfterPostfix Nothing
after_sign sign.Bang had_line_break typescript top = if had_line_break then FreshOperand else To state.After Nothing
after_sign sign.Tilde had_line_break typescript top = Fresh
after_sign sign.At had_line_break typescript top = Fresh
after_sign sign.Hash had_line_break typescript top = Fresh
after_sign sign.Literal had_line_break typescript top = Fresh
after_sign sign.Regex had_line_break typescript top = Fresh
after_sign sign.BackQuote had_line_break typescript top = To state.Quasi (Push frame.Template)
after_sign sign.Lt had_line_break typescript top = if typescript then after_less top else To state.Operand Nothing
after_sign sign.LShift had_line_break typescript top = if typescript then after_shift top else To state.Operand Nothing
after_sign sign.Assign had_line_break typescript top = after_equals top
after_sign sign.Gt had_line_break typescript top = Greater angles.One
after_sign sign.RShift had_line_break typescript top = Greater angles.Two
after_sign sign.ZeroFillRShift had_line_break typescript top = Greater angles.Three
after_sign sign.GtEq had_line_break typescript top = To state.Operand DropCandidates
after_sign sign.RShiftEq had_line_break typescript top = To state.Operand DropCandidates
after_sign sign.ZeroFillRShiftEq had_line_break typescript top = To state.Operand DropCandidates
after_sign other had_line_break typescript top = To state.Operand Nothing

-- a name behind an operand
abbrev pub after_name : names.Name → Bool → Option FrameKind → Option FrameKind → Move
after_name name.Of had_line_break top under = if over_for top then To state.Operand Nothing else if over_declared_for top under then To state.Operand Pop else after_word had_line_break top under
after_name name.As had_line_break top under = if had_line_break then after_word had_line_break top under else To state.TypeOperand (Push frame.Assertion)
after_name name.Satisfies had_line_break top under = if had_line_break then after_word had_line_break top under else To state.TypeOperand (Push frame.Assertion)
after_name name.Implements had_line_break top under = if over_class_head top then To state.ClassHead Nothing else after_word had_line_break top under
after_name _ had_line_break top under = after_word had_line_break top under

-- `extends` behind an operand: what may be type arguments are some, in a conditional type or before a constraint; else it is of a
-- class (ECMA-262, 15.7)
abbrev pub after_extends : Option FrameKind → Move
after_extends (Some frame.Candidate) = To state.TypeBrackets (Turn frame.ArgumentsAngle)
after_extends (Some frame.AsyncCandidate) = To state.TypeBrackets (Turn frame.AsyncAngle)
after_extends (Some frame.ParametersCandidate) = To state.TypeBrackets (Turn frame.InnerAngle)
after_extends top = To state.Operand Nothing

-- an operand is complete (ECMA-262, 12.1: the goal symbols that take a division)
abbrev pub after_operand : PartKind → Bool → Bool → Option FrameKind → Option FrameKind → Move
after_operand (Reserved reserved.Extends) had_line_break typescript top under = after_extends top
after_operand (Reserved reserved.In) had_line_break typescript top under = if over_declared_for top under then To state.Operand Pop else To state.Operand Nothing
after_operand (Reserved reserved.InstanceOf) had_line_break typescript top under = To state.Operand Nothing
after_operand (Reserved r) had_line_break typescript top under = after_word had_line_break top under
after_operand (Name n) had_line_break typescript top under = after_name n had_line_break top under
after_operand (Sign s) had_line_break typescript top under = after_sign s had_line_break typescript top

-- behind a postfix operator or an asserted type, where no type arguments stand
abbrev pub after_postfix : PartKind → Move
after_postfix (Sign sign.Lt) = To state.Operand Nothing
after_postfix (Sign sign.LShift) = To state.Operand Nothing
after_postfix kind = Again state.After Nothing

-- behind parentheses: a group or the parameters of an arrow function (ECMA-262, 15.3)
abbrev pub behind_group : PartKind → Move
behind_group (Sign sign.Colon) = Colon grouping.Plain
behind_group kind = Again state.After Nothing

-- behind the parameters of an arrow function (ECMA-262, 15.3)
abbrev pub behind_parameters : PartKind → Move
behind_parameters (Sign sign.Colon) = To state.TypeOperand (Push frame.ReturnType)
behind_parameters kind = Again state.After Nothing

-- behind `async` and parentheses: a call or parameters (ECMA-262, 15.9)
abbrev pub behind_async_group : PartKind → Move
behind_async_group (Sign sign.Arrow) = To state.ArrowBody (Arrow true)
behind_async_group (Sign sign.Colon) = Colon grouping.Async
behind_async_group kind = Again state.After Nothing

-- behind the parameters of an async arrow function (ECMA-262, 15.9)
abbrev pub behind_async_parameters : PartKind → Bool → Move
behind_async_parameters (Sign sign.Arrow) typescript = To state.ArrowBody (Arrow true)
behind_async_parameters (Sign sign.Colon) typescript = if typescript then To state.TypeOperand (Push frame.AsyncReturnType) else Again state.After Nothing
behind_async_parameters kind typescript = Again state.After Nothing

-- behind `async` where an operand is expected (ECMA-262, 15.8, 15.9)
abbrev pub behind_async : PartKind → Bool → Bool → Move
behind_async (Reserved reserved.Function) had_line_break typescript = if had_line_break then Again state.After Nothing else To state.Head (Enter frame.FunctionExpressionHead true)
behind_async (Name name.As) had_line_break typescript = if had_line_break then Again state.After Nothing else To state.AsyncAs Nothing
behind_async (Name name.Satisfies) had_line_break typescript = if had_line_break then Again state.After Nothing else To state.AsyncAs Nothing
behind_async (Name n) had_line_break typescript = if had_line_break then Again state.After Nothing else To state.AsyncParameter Nothing
behind_async (Sign sign.LParen) had_line_break typescript = To state.Operand (Push frame.AsyncParen)
behind_async (Sign sign.Lt) had_line_break typescript = if typescript then To state.TypeParameter (Push frame.AsyncCandidate) else Again state.After Nothing
behind_async kind had_line_break typescript = Again state.After Nothing

-- behind `async` where a statement begins (ECMA-262, 15.8, 15.9)
abbrev pub behind_async_statement : PartKind → Bool → Bool → Move
behind_async_statement (Reserved reserved.Function) had_line_break typescript = if had_line_break then Again state.Label Nothing else To state.Head (Enter frame.FunctionHead true)
behind_async_statement (Name name.As) had_line_break typescript = if had_line_break then Again state.Label Nothing else To state.AsyncAs Nothing
behind_async_statement (Name name.Satisfies) had_line_break typescript = if had_line_break then Again state.Label Nothing else To state.AsyncAs Nothing
behind_async_statement (Name n) had_line_break typescript = if had_line_break then Again state.Label Nothing else To state.AsyncParameter Nothing
behind_async_statement (Sign sign.LParen) had_line_break typescript = To state.Operand (Push frame.AsyncParen)
behind_async_statement (Sign sign.Lt) had_line_break typescript = if typescript then To state.TypeParameter (Push frame.AsyncCandidate) else Again state.Label Nothing
behind_async_statement kind had_line_break typescript = Again state.Label Nothing

-- behind `async as`: a parameter, or a type that is asserted
abbrev pub behind_async_as : PartKind → Move
behind_async_as (Sign sign.Arrow) = To state.ArrowBody (Arrow true)
behind_async_as kind = Again state.TypeOperand (Push frame.Assertion)

-- behind `async` and a name (ECMA-262, 15.9)
abbrev pub behind_async_name : PartKind → Move
behind_async_name (Sign sign.Arrow) = To state.ArrowBody (Arrow true)
behind_async_name kind = Again state.After Nothing

-- behind `async <`, or behind a comma there: `const` is a modifier of a type parameter alone
abbrev pub type_parameter : PartKind → Option FrameKind → Move
type_parameter (Reserved reserved.Declare) top = if over_async_candidate top then To state.TypeBrackets (Turn frame.AsyncAngle) else Again state.Operand Nothing
type_parameter kind top = Again state.Operand Nothing

-- behind `async` and what may be type parameters
abbrev pub behind_async_type_arguments : PartKind → Move
behind_async_type_arguments (Sign sign.LParen) = To state.Operand (Push frame.AsyncParen)
behind_async_type_arguments kind = Again state.TypeArguments Nothing

-- behind what may be type arguments
abbrev pub behind_type_arguments : PartKind → Bool → Option FrameKind → Move
behind_type_arguments (Name name.Implements) had_line_break top = if over_class_head top then To state.ClassHead Nothing else if had_line_break then Again state.After Nothing else Again state.Operand Nothing
behind_type_arguments (Reserved reserved.In) had_line_break top = Again state.After Nothing
behind_type_arguments (Reserved reserved.InstanceOf) had_line_break top = Again state.After Nothing
behind_type_arguments (Name name.As) had_line_break top = Again state.After Nothing
behind_type_arguments (Name name.Satisfies) had_line_break top = Again state.After Nothing
behind_type_arguments (Name name.Of) had_line_break top = Again state.After Nothing
behind_type_arguments (Name n) had_line_break top = if had_line_break then Again state.After Nothing else Again state.Operand Nothing
behind_type_arguments (Reserved r) had_line_break top = if had_line_break then Again state.After Nothing else Again state.Operand Nothing
behind_type_arguments (Sign sign.Literal) had_line_break top = if had_line_break then Again state.After Nothing else Again state.Operand Nothing
behind_type_arguments (Sign sign.Regex) had_line_break top = if had_line_break then Again state.After Nothing else Again state.Operand Nothing
behind_type_arguments (Sign sign.LBracket) had_line_break top = if had_line_break then Again state.After Nothing else Again state.Operand Nothing
behind_type_arguments (Sign sign.Bang) had_line_break top = if had_line_break then Again state.After Nothing else Again state.Operand Nothing
behind_type_arguments (Sign sign.Update) had_line_break top = if had_line_break then Again state.After Nothing else Again state.Operand Nothing
behind_type_arguments (Sign sign.Tilde) had_line_break top = if had_line_break then Again state.After Nothing else Again state.Operand Nothing
behind_type_arguments (Sign sign.Hash) had_line_break top = if had_line_break then Again state.After Nothing else Again state.Operand Nothing
behind_type_arguments (Sign sign.LBrace) had_line_break top = if had_line_break then Again state.After Nothing else if over_class_head top then Again state.After Nothing else Again state.Operand Nothing
behind_type_arguments kind had_line_break top = Again state.After Nothing

-- behind what may be the type parameters of a function type with which type arguments begin: its parameters, else an operand, since
-- it was a shift and a comparison
abbrev pub behind_function_type_arguments : PartKind → Move
behind_function_type_arguments (Sign sign.LParen) = To state.Operand (Push frame.Call)
behind_function_type_arguments kind = Again state.Operand DropCandidates

-- behind `import` in an expression (ECMA-262, 13.3.10, 13.3.12)
abbrev pub import_expression : PartKind → Move
import_expression (Sign sign.LParen) = To state.Operand (Push frame.Call)
import_expression kind = Again state.After Nothing

-- behind a dot (ECMA-262, 13.3.2)
abbrev pub behind_dot : PartKind → Move
behind_dot (Name n) = To state.After Nothing
behind_dot (Reserved r) = To state.After Nothing
behind_dot (Sign sign.Hash) = To state.Property Nothing
behind_dot kind = Again state.After Nothing

-- behind `?.` (ECMA-262, 13.3.9)
abbrev pub behind_optional_dot : PartKind → Move
behind_optional_dot (Name n) = To state.After Nothing
behind_optional_dot (Reserved r) = To state.After Nothing
behind_optional_dot (Sign sign.Hash) = To state.Property Nothing
behind_optional_dot kind = Again state.After Nothing

-- behind the braces of an arrow function (ECMA-262, 15.3)
abbrev pub behind_arrow_body : PartKind → Move
behind_arrow_body (Sign sign.Comma) = Again state.After Nothing
behind_arrow_body (Sign sign.Semi) = Again state.After Nothing
behind_arrow_body (Sign sign.Colon) = Again state.After Nothing
behind_arrow_body (Sign sign.RParen) = Again state.After Nothing
behind_arrow_body (Sign sign.RBracket) = Again state.After Nothing
behind_arrow_body (Sign sign.RBrace) = Again state.After Nothing
behind_arrow_body (Sign sign.QuestionMark) = Again state.After Nothing
behind_arrow_body (Sign sign.Gt) = Again state.After Nothing
behind_arrow_body (Sign sign.RShift) = Again state.After Nothing
behind_arrow_body (Sign sign.ZeroFillRShift) = Again state.After Nothing
behind_arrow_body (Sign sign.LBrace) = Again state.After Nothing
behind_arrow_body (Name n) = Again state.After Nothing
behind_arrow_body (Reserved r) = Again state.After Nothing
behind_arrow_body kind = Fresh
