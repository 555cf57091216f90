-- Heads of functions and classes, and what stands in classes and objects: the rows of the table, one a clause
use Rattle.std.specs.Prelude.{Bool, if◌then◌else◌}
use Rattle.ecma_role_table.specs.declared.part.PartKind.{PartKind}
use Rattle.ecma_role_table.specs.declared.part.PartKind.TheVariants.{Name, Reserved, Sign}
use Rattle.ecma_role_table.specs.declared.part.Name.TheVariants as name
use Rattle.ecma_role_table.specs.declared.part.Reserved.TheVariants as reserved
use Rattle.ecma_role_table.specs.declared.part.Sign.TheVariants as sign
use Rattle.ecma_role_table.specs.declared.frame.Around.{Around}
use Rattle.ecma_role_table.specs.declared.frame.FrameKind.TheVariants as frame
use Rattle.ecma_role_table.specs.declared.state.State.TheVariants as state
use Rattle.ecma_role_table.specs.declared.moves.Move.{Move}
use Rattle.ecma_role_table.specs.declared.moves.Move.TheVariants.{Again, Body, Brace, Bracket, ClassBody, NoBody, NoClassBody, NoDecorator, Paren, To}
use Rattle.ecma_role_table.specs.declared.moves.Change.TheVariants.{ClearPending, DropCandidates, DropCandidatesClear, Generator, LoseAsync, Method, Nothing, PendAsync, PendGenerator, PendNameAsync, Pop, Push, PushTwo, Static, Turn}

-- the head of a function or method, up to its parameters (ECMA-262, 15.2)
abbrev pub function_head : PartKind → Move
function_head (Sign sign.LParen) = To state.Operand (Push frame.Parameters)
function_head (Sign sign.Lt) = To state.TypeBrackets (Push frame.HeadAngle)
function_head (Sign sign.Star) = To state.Head Generator
function_head (Name n) = To state.Head Nothing
function_head (Reserved r) = To state.Head Nothing
function_head (Sign sign.LBrace) = Body
function_head kind = NoBody

-- behind the parameters of a function or method (ECMA-262, 15.2)
abbrev pub function_head_end : PartKind → Move
function_head_end (Sign sign.LBrace) = Body
function_head_end (Sign sign.Colon) = To state.TypeOperand (Push frame.Annotation)
function_head_end kind = NoBody

-- the head of a class (ECMA-262, 15.7)
abbrev pub class_head : PartKind → Move
class_head (Sign sign.LBrace) = ClassBody
class_head (Sign sign.Lt) = To state.TypeBrackets (Push frame.HeadAngle)
class_head (Sign sign.LShift) = To state.TypeBrackets (PushTwo frame.HeadAngle frame.InnerAngle)
class_head (Reserved reserved.Extends) = To state.Operand Nothing
class_head (Name n) = To state.ClassHead Nothing
class_head (Reserved r) = To state.ClassHead Nothing
class_head (Sign sign.Comma) = To state.ClassHead Nothing
class_head (Sign sign.Dot) = To state.ClassHead Nothing
class_head kind = NoClassBody

-- a member of a class, in which `async` behind `async` is a name (ECMA-262, 15.7, 15.8)
abbrev pub member : PartKind → Around → Move
member (Name name.Async) method = if method.is_async then To state.Member Nothing else To state.MemberAsync PendAsync
member (Name n) method = To state.Member Nothing
member (Reserved r) method = To state.Member Nothing
member (Sign sign.Star) method = To state.Member PendGenerator
member (Sign sign.LParen) method = To state.Operand Method
member (Sign sign.Lt) method = To state.TypeBrackets (Push frame.HeadAngle)
member (Sign sign.LBracket) method = To state.Operand (Push frame.Computed)
member (Sign sign.LBrace) method = To state.Statement Static
member (Sign sign.RBrace) method = Brace
member (Sign sign.Assign) method = To state.Operand ClearPending
member (Sign sign.Colon) method = To state.TypeOperand (Push frame.Annotation)
member (Sign sign.Semi) method = To state.Member ClearPending
member (Sign sign.At) method = To state.Decorator (Push frame.MemberDecorator)
member (Sign sign.BackQuote) method = Again state.Operand Nothing
member kind method = To state.Member Nothing

-- behind `async` in a class: a word, or the name of a member (ECMA-262, 15.8)
abbrev pub behind_member_async : PartKind → Bool → Move
behind_member_async (Sign sign.LParen) had_line_break = Again state.Member LoseAsync
behind_member_async (Sign sign.Assign) had_line_break = Again state.Member LoseAsync
behind_member_async (Sign sign.Colon) had_line_break = Again state.Member LoseAsync
behind_member_async (Sign sign.Semi) had_line_break = Again state.Member LoseAsync
behind_member_async (Sign sign.Lt) had_line_break = Again state.Member LoseAsync
behind_member_async (Sign sign.RBrace) had_line_break = Again state.Member LoseAsync
behind_member_async (Sign sign.QuestionMark) had_line_break = Again state.Member LoseAsync
behind_member_async (Sign sign.Bang) had_line_break = Again state.Member LoseAsync
behind_member_async kind had_line_break = if had_line_break then Again state.Member LoseAsync else Again state.Member Nothing

-- a key of an object or of an enumeration, in which `async` behind `async` is a name (ECMA-262, 13.2.5, 15.8)
abbrev pub key : PartKind → Around → Move
key (Name name.Async) method = if method.is_async then To state.Key Nothing else To state.KeyAsync PendAsync
key (Name n) method = To state.Key Nothing
key (Reserved r) method = To state.Key Nothing
key (Sign sign.Star) method = To state.Key PendGenerator
key (Sign sign.LParen) method = To state.Operand Method
key (Sign sign.Lt) method = To state.TypeBrackets (Push frame.HeadAngle)
key (Sign sign.LBracket) method = To state.Operand (Push frame.Computed)
key (Sign sign.RBrace) method = Brace
key (Sign sign.RParen) method = Paren
key (Sign sign.RBracket) method = Bracket
key (Sign sign.Colon) method = To state.Operand ClearPending
key (Sign sign.Assign) method = To state.Operand ClearPending
key (Sign sign.DotDotDot) method = To state.Operand ClearPending
key (Sign sign.Comma) method = To state.Key ClearPending
key (Sign sign.BackQuote) method = Again state.Operand Nothing
key (Sign sign.LBrace) method = Again state.Operand Nothing
key kind method = To state.Key Nothing

-- behind `async` in an object: a word, or a key (ECMA-262, 15.8)
abbrev pub behind_key_async : PartKind → Move
behind_key_async (Sign sign.LParen) = Again state.Key LoseAsync
behind_key_async (Sign sign.Colon) = Again state.Key LoseAsync
behind_key_async (Sign sign.Comma) = Again state.Key LoseAsync
behind_key_async (Sign sign.RBrace) = Again state.Key LoseAsync
behind_key_async (Sign sign.Assign) = Again state.Key LoseAsync
behind_key_async (Sign sign.Lt) = Again state.Key LoseAsync
behind_key_async kind = Again state.Key Nothing

-- behind a comma in an object, where `<` may have begun type arguments: a key or a type
abbrev pub behind_key_comma : PartKind → Move
behind_key_comma (Name name.TypeOperator) = Again state.Operand Nothing
behind_key_comma (Reserved reserved.Typeof) = Again state.Operand Nothing
behind_key_comma (Reserved reserved.New) = Again state.Operand Nothing
behind_key_comma (Reserved reserved.Import) = Again state.Operand Nothing
behind_key_comma (Reserved reserved.Void) = Again state.Operand Nothing
behind_key_comma (Name name.Async) = To state.KeyCommaName PendNameAsync
behind_key_comma (Name name.Accessor) = To state.KeyCommaName ClearPending
behind_key_comma (Name n) = To state.KeyCommaParameter ClearPending
behind_key_comma (Reserved r) = To state.KeyCommaParameter ClearPending
behind_key_comma (Sign sign.Star) = Again state.Key DropCandidates
behind_key_comma kind = Again state.Operand Nothing

-- behind a word there that a method's name may follow
abbrev pub behind_key_comma_name : PartKind → Move
behind_key_comma_name (Sign sign.LParen) = Again state.Key DropCandidatesClear
behind_key_comma_name (Sign sign.Colon) = Again state.Key DropCandidatesClear
behind_key_comma_name (Sign sign.Star) = Again state.Key DropCandidates
behind_key_comma_name (Name n) = Again state.Key DropCandidates
behind_key_comma_name (Reserved r) = Again state.Key DropCandidates
behind_key_comma_name kind = Again state.After ClearPending

-- behind another word there: a key, or a type parameter, before whose name a modifier may stand
abbrev pub behind_key_comma_parameter : PartKind → Move
behind_key_comma_parameter (Sign sign.LParen) = Again state.Key DropCandidatesClear
behind_key_comma_parameter (Sign sign.Colon) = Again state.Key DropCandidatesClear
behind_key_comma_parameter (Reserved reserved.Extends) = Again state.After ClearPending
behind_key_comma_parameter (Name n) = Again state.Operand ClearPending
behind_key_comma_parameter (Reserved r) = Again state.Operand ClearPending
behind_key_comma_parameter kind = Again state.After ClearPending

-- the head of an alias of a type
abbrev pub alias_head : PartKind → Move
alias_head (Sign sign.Lt) = To state.TypeBrackets (Push frame.HeadAngle)
alias_head (Sign sign.Assign) = To state.TypeOperand (Turn frame.AliasType)
alias_head (Name n) = To state.AliasHead Nothing
alias_head (Reserved r) = To state.AliasHead Nothing
alias_head kind = Again state.Statement Pop

-- the head of an interface
abbrev pub interface_head : PartKind → Move
interface_head (Sign sign.Lt) = To state.TypeBrackets (Push frame.HeadAngle)
interface_head (Sign sign.LShift) = To state.TypeBrackets (PushTwo frame.HeadAngle frame.InnerAngle)
interface_head (Sign sign.LBrace) = To state.TypeBrackets (Turn frame.Interface)
interface_head (Name n) = To state.InterfaceHead Nothing
interface_head (Reserved r) = To state.InterfaceHead Nothing
interface_head (Sign sign.Comma) = To state.InterfaceHead Nothing
interface_head (Sign sign.Dot) = To state.InterfaceHead Nothing
interface_head kind = Again state.Statement Pop

-- behind `@`: what decorates
abbrev pub decorator : PartKind → Move
decorator (Sign sign.LParen) = To state.Operand (Push frame.Paren)
decorator (Name n) = To state.AfterDecorator Nothing
decorator (Reserved r) = To state.AfterDecorator Nothing
decorator (Sign sign.Hash) = To state.AfterDecorator Nothing
decorator (Sign sign.Regex) = To state.AfterDecorator Nothing
decorator kind = Again state.AfterDecorator Nothing

-- behind a name or call that decorates
abbrev pub behind_decorator : PartKind → Bool → Move
behind_decorator (Sign sign.Dot) had_line_break = To state.Decorator Nothing
behind_decorator (Sign sign.QuestionMark) had_line_break = To state.Decorator Nothing
behind_decorator (Sign sign.LParen) had_line_break = To state.Operand (Push frame.Call)
behind_decorator (Sign sign.Lt) had_line_break = To state.TypeBrackets (Push frame.HeadAngle)
behind_decorator (Sign sign.LShift) had_line_break = To state.TypeBrackets (PushTwo frame.HeadAngle frame.InnerAngle)
behind_decorator (Sign sign.Bang) had_line_break = if had_line_break then NoDecorator else To state.AfterDecorator Nothing
behind_decorator kind had_line_break = NoDecorator
