-- Rows of the transition: for every list where the list doesn't count, and for texts that were read by hand.
use Rattle.std.proofs.Common.{◌≡◌, ℕ, Bool, true, false, List, [], ◌∷◌, Option, Some, None, length, fold, not, refl}
use Rattle.ecma_syntax.specs.declared.keyword.Keyword.{Keyword}
use Rattle.ecma_syntax.specs.declared.keyword.Keyword.TheVariants as keyword
use Rattle.ecma_syntax.specs.declared.known_ident.KnownIdent.TheVariants as known
use Rattle.ecma_syntax.specs.declared.word.IdentKind.TheVariants as name
use Rattle.ecma_syntax.specs.declared.word.WordKind.TheVariants as word
use Rattle.ecma_syntax.specs.declared.operator.AssignOp.TheVariants.{Assign, DivAssign}
use Rattle.ecma_syntax.specs.declared.operator.BinOpToken.TheVariants.{Add, Div, Lt, Gt}
use Rattle.ecma_token.specs.declared.kind.TokenKind.{TokenKind}
use Rattle.ecma_token.specs.declared.kind.TokenKind.TheVariants.{Word, AssignOp, Arrow, BackQuote, BinOp, Colon, Comma, Dot, DollarLBrace, LBrace, LParen, MinusMinus, Num, PlusPlus, RBrace, RParen, Regex, Semi, Template}
use Rattle.ecma_state.specs.Contexts.{Contexts}
use Rattle.ecma_contexts.specs.declared.token_context.TokenContext.{TokenContext}
use Rattle.ecma_contexts.specs.declared.token_context.TokenContext.TheVariants.{BraceStmt, BraceExpr, TplQuasi, ParenStmt, ParenExpr, Tpl, FnExpr, ClassExpr, JSXOpeningTag, JSXClosingTag, JSXExpr}
use Rattle.ecma_contexts.specs.declared.transition.Before.{Before}
use Rattle.ecma_state.specs.Transition.{Turned, transition, turned, brace_block}

abbrev keyword_kind : Keyword → TokenKind
keyword_kind k = Word (word.Keyword k)

abbrev other_name : TokenKind
other_name = Word (word.Ident name.Other)

abbrev of_name : TokenKind
of_name = Word (word.Ident (name.Known known.Of))

-- behind a token of this kind, before which no line terminator stands, and where an expression may begin or not
abbrev behind : Option TokenKind → Bool → Before
behind previous expr_allowed = record { expr_allowed = expr_allowed; previous = previous; previous_flag = false }

-- the same with a line terminator before it
abbrev behind_line : TokenKind → Bool → Before
behind_line previous expr_allowed = record { expr_allowed = expr_allowed; previous = Some previous; previous_flag = true }

-- Keywords

keyword_behind_dot : (e flag : Bool) (contexts : Contexts) → transition (behind (Some Dot) e) contexts (keyword_kind keyword.Function) flag ≡ turned contexts false
unfolding transition
keyword_behind_dot e flag contexts = refl

return_allows : (e flag : Bool) (contexts : Contexts) → transition (behind None e) contexts (keyword_kind keyword.Return) flag ≡ turned contexts true
unfolding transition
return_allows e flag contexts = refl

this_does_not : (e flag : Bool) (contexts : Contexts) → transition (behind None e) contexts (keyword_kind keyword.This) flag ≡ turned contexts false
unfolding transition
this_does_not e flag contexts = refl

function_in_expression : (flag : Bool) (contexts : Contexts) → transition (behind (Some (AssignOp Assign)) true) contexts (keyword_kind keyword.Function) flag ≡ turned (FnExpr ∷ contexts) false
unfolding transition
function_in_expression true contexts = refl
function_in_expression false contexts = refl

class_in_expression : (flag : Bool) (contexts : Contexts) → transition (behind (Some LParen) true) contexts (keyword_kind keyword.Class) flag ≡ turned (ClassExpr ∷ contexts) false
unfolding transition
class_in_expression true contexts = refl
class_in_expression false contexts = refl

function_declared : (flag : Bool) (contexts : Contexts) → transition (behind (Some Semi) true) contexts (keyword_kind keyword.Function) flag ≡ turned contexts false
unfolding transition
function_declared flag contexts = refl

function_behind_operand : (flag : Bool) (contexts : Contexts) → transition (behind (Some Num) false) contexts (keyword_kind keyword.Function) flag ≡ turned contexts false
unfolding transition
function_behind_operand flag contexts = refl

-- `)` and `}`

closed_on_none : (before : Before) (flag : Bool) → transition before [] RBrace flag ≡ turned [] true
unfolding transition
closed_on_none before flag = refl

closed_on_one : (before : Before) (flag : Bool) (last : TokenContext) → transition before (last ∷ []) RParen flag ≡ turned (last ∷ []) true
unfolding transition
closed_on_one before flag last = refl

function_body_closed : (before : Before) (flag : Bool) (contexts : Contexts) → transition before (BraceStmt ∷ FnExpr ∷ contexts) RBrace flag ≡ turned contexts false
unfolding transition
function_body_closed before flag contexts = refl

class_body_closed : (before : Before) (flag : Bool) (contexts : Contexts) → transition before (BraceStmt ∷ ClassExpr ∷ contexts) RBrace flag ≡ turned contexts false
unfolding transition
class_body_closed before flag contexts = refl

substitution_closed : (before : Before) (flag : Bool) (contexts : Contexts) → transition before (TplQuasi ∷ Tpl ∷ contexts) RBrace flag ≡ turned (Tpl ∷ contexts) false
unfolding transition
substitution_closed before flag contexts = refl

substitution_closed_elsewhere : (before : Before) (flag : Bool) (contexts : Contexts) → transition before (TplQuasi ∷ BraceExpr ∷ contexts) RParen flag ≡ turned (BraceExpr ∷ contexts) true
unfolding transition
substitution_closed_elsewhere before flag contexts = refl

block_closed : (before : Before) (flag : Bool) (contexts : Contexts) → transition before (BraceStmt ∷ BraceStmt ∷ contexts) RBrace flag ≡ turned (BraceStmt ∷ contexts) true
unfolding transition
block_closed before flag contexts = refl

head_closed : (before : Before) (flag loops : Bool) (contexts : Contexts) → transition before (ParenStmt loops ∷ BraceStmt ∷ contexts) RParen flag ≡ turned (BraceStmt ∷ contexts) true
unfolding transition
head_closed before flag loops contexts = refl

parentheses_closed : (before : Before) (flag : Bool) (contexts : Contexts) → transition before (ParenExpr ∷ BraceStmt ∷ contexts) RParen flag ≡ turned (BraceStmt ∷ contexts) false
unfolding transition
parentheses_closed before flag contexts = refl

object_closed : (before : Before) (flag : Bool) (contexts : Contexts) → transition before (BraceExpr ∷ ParenExpr ∷ contexts) RBrace flag ≡ turned (ParenExpr ∷ contexts) false
unfolding transition
object_closed before flag contexts = refl

tag_closed : (before : Before) (flag : Bool) (contexts : Contexts) → transition before (JSXClosingTag ∷ JSXExpr ∷ contexts) RBrace flag ≡ turned (JSXExpr ∷ contexts) true
unfolding transition
tag_closed before flag contexts = refl

-- `:`

colon_of_function : (before : Before) (flag : Bool) (contexts : Contexts) → transition before (FnExpr ∷ contexts) Colon flag ≡ turned contexts true
unfolding transition
colon_of_function before flag contexts = refl

colon_of_block : (before : Before) (flag : Bool) (contexts : Contexts) → transition before (BraceStmt ∷ contexts) Colon flag ≡ turned (BraceStmt ∷ contexts) true
unfolding transition
colon_of_block before flag contexts = refl

-- Names

of_in_for : (e flag : Bool) (contexts : Contexts) → transition (behind (Some other_name) e) (ParenStmt true ∷ contexts) of_name flag ≡ turned (ParenStmt true ∷ contexts) true
unfolding transition
of_in_for e flag contexts = refl

of_first_in_for : (e flag : Bool) (contexts : Contexts) → transition (behind (Some LParen) e) (ParenStmt true ∷ contexts) of_name flag ≡ turned (ParenStmt true ∷ contexts) false
unfolding transition
of_first_in_for e flag contexts = refl

of_behind_nothing : (e flag : Bool) (contexts : Contexts) → transition (behind None e) (ParenStmt true ∷ contexts) of_name flag ≡ turned (ParenStmt true ∷ contexts) true
unfolding transition
of_behind_nothing e flag contexts = refl

of_in_while : (e flag : Bool) (contexts : Contexts) → transition (behind (Some other_name) e) (ParenStmt false ∷ contexts) of_name flag ≡ turned (ParenStmt false ∷ contexts) false
unfolding transition
of_in_while e flag contexts = refl

name_declared_on_line : (e flag : Bool) (contexts : Contexts) → transition (behind_line (keyword_kind keyword.Let) e) contexts other_name flag ≡ turned contexts true
unfolding transition
name_declared_on_line e flag contexts = refl

name_declared : (e flag : Bool) (contexts : Contexts) → transition (behind (Some (keyword_kind keyword.Let)) e) contexts other_name flag ≡ turned contexts false
unfolding transition
name_declared e flag contexts = refl

-- Openers

brace_of_block : (flag : Bool) (contexts : Contexts) → transition (behind (Some RParen) false) contexts LBrace flag ≡ turned (BraceStmt ∷ contexts) true
unfolding transition
brace_of_block flag contexts = refl

brace_of_object : (flag : Bool) (contexts : Contexts) → transition (behind (Some (AssignOp Assign)) true) contexts LBrace flag ≡ turned (BraceExpr ∷ contexts) true
unfolding transition
brace_of_object true contexts = refl
brace_of_object false contexts = refl

substitution : (before : Before) (flag : Bool) (contexts : Contexts) → transition before contexts DollarLBrace flag ≡ turned (TplQuasi ∷ contexts) true
unfolding transition
substitution before flag contexts = refl

head_of_for : (e flag : Bool) (contexts : Contexts) → transition (behind (Some (keyword_kind keyword.For)) e) contexts LParen flag ≡ turned (ParenStmt true ∷ contexts) true
unfolding transition
head_of_for e flag contexts = refl

head_of_while : (e flag : Bool) (contexts : Contexts) → transition (behind (Some (keyword_kind keyword.While)) e) contexts LParen flag ≡ turned (ParenStmt false ∷ contexts) true
unfolding transition
head_of_while e flag contexts = refl

arguments : (e flag : Bool) (contexts : Contexts) → transition (behind (Some other_name) e) contexts LParen flag ≡ turned (ParenExpr ∷ contexts) true
unfolding transition
arguments e flag contexts = refl

-- Those that leave the contexts

increment : (before : Before) (flag : Bool) (contexts : Contexts) → transition before contexts PlusPlus flag ≡ turned contexts before.expr_allowed
unfolding transition
increment before flag contexts = refl

decrement : (before : Before) (flag : Bool) (contexts : Contexts) → transition before contexts MinusMinus flag ≡ turned contexts before.expr_allowed
unfolding transition
decrement before flag contexts = refl

comma : (before : Before) (flag : Bool) (contexts : Contexts) → transition before contexts Comma flag ≡ turned contexts true
unfolding transition
comma before flag contexts = refl

number : (before : Before) (flag : Bool) (contexts : Contexts) → transition before contexts Num flag ≡ turned contexts false
unfolding transition
number before flag contexts = refl

null_word : (before : Before) (flag : Bool) (contexts : Contexts) → transition before contexts (Word word.Null) flag ≡ turned contexts false
unfolding transition
null_word before flag contexts = refl

-- Back quotes

template_ends : (before : Before) (flag : Bool) (contexts : Contexts) → transition before (Tpl ∷ contexts) BackQuote flag ≡ turned contexts false
unfolding transition
template_ends before flag contexts = refl

template_begins : (before : Before) (flag : Bool) → transition before [] BackQuote flag ≡ turned (Tpl ∷ []) false
unfolding transition
template_begins before flag = refl

template_in_substitution : (before : Before) (flag : Bool) (contexts : Contexts) → transition before (TplQuasi ∷ contexts) BackQuote flag ≡ turned (Tpl ∷ TplQuasi ∷ contexts) false
unfolding transition
template_in_substitution before flag contexts = refl

-- Whether `{` begins a block

colon_in_block : (e flag : Bool) (contexts : Contexts) → brace_block (BraceStmt ∷ contexts) (Some Colon) flag e ≡ true
colon_in_block e flag contexts = refl

colon_in_object : (e flag : Bool) (contexts : Contexts) → brace_block (BraceExpr ∷ contexts) (Some Colon) flag e ≡ false
colon_in_object e flag contexts = refl

colon_elsewhere : (e flag : Bool) (contexts : Contexts) → brace_block (ParenExpr ∷ contexts) (Some Colon) flag e ≡ not e
colon_elsewhere e flag contexts = refl

return_on_line : (e flag : Bool) (contexts : Contexts) → brace_block contexts (Some (keyword_kind keyword.Return)) flag e ≡ flag
return_on_line e flag contexts = refl

yield_on_line : (e flag : Bool) (contexts : Contexts) → brace_block contexts (Some (keyword_kind keyword.Yield)) flag e ≡ flag
yield_on_line e flag contexts = refl

behind_else : (e flag : Bool) (contexts : Contexts) → brace_block contexts (Some (keyword_kind keyword.Else)) flag e ≡ true
behind_else e flag contexts = refl

behind_nothing : (e flag : Bool) (contexts : Contexts) → brace_block contexts None flag e ≡ true
behind_nothing e flag contexts = refl

brace_in_tag : (e flag : Bool) (contexts : Contexts) → brace_block (BraceExpr ∷ JSXOpeningTag ∷ contexts) (Some LBrace) flag e ≡ true
brace_in_tag e flag contexts = refl

brace_in_object : (e flag : Bool) → brace_block (BraceExpr ∷ []) (Some LBrace) flag e ≡ false
brace_in_object e flag = refl

brace_in_block : (e flag : Bool) (contexts : Contexts) → brace_block (BraceStmt ∷ contexts) (Some LBrace) flag e ≡ true
brace_in_block e flag contexts = refl

behind_less : (e flag : Bool) (contexts : Contexts) → brace_block contexts (Some (BinOp Lt)) flag e ≡ true
behind_less e flag contexts = refl

behind_greater : (e flag : Bool) (contexts : Contexts) → brace_block contexts (Some (BinOp Gt)) flag e ≡ true
behind_greater e flag contexts = refl

behind_arrow : (e flag : Bool) (contexts : Contexts) → brace_block contexts (Some Arrow) flag e ≡ true
behind_arrow e flag contexts = refl

behind_name_on_line : (e : Bool) (contexts : Contexts) → brace_block contexts (Some other_name) true e ≡ true
behind_name_on_line e contexts = refl

behind_name : (e : Bool) (contexts : Contexts) → brace_block contexts (Some other_name) false e ≡ not e
behind_name e contexts = refl

behind_sum : (e : Bool) (contexts : Contexts) → brace_block contexts (Some (BinOp Add)) false e ≡ not e
behind_sum e contexts = refl

-- A slash leaves the contexts as they are, and an expression may begin behind it; behind a regular expression none may.

behind_slash : (before : Before) (flag : Bool) (contexts : Contexts) → transition before contexts (BinOp Div) flag ≡ turned contexts true
unfolding transition
behind_slash before flag contexts = refl

behind_slash_equals : (before : Before) (flag : Bool) (contexts : Contexts) → transition before contexts (AssignOp DivAssign) flag ≡ turned contexts true
unfolding transition
behind_slash_equals before flag contexts = refl

behind_expression : (before : Before) (flag : Bool) (contexts : Contexts) → transition before contexts Regex flag ≡ turned contexts false
unfolding transition
behind_expression before flag contexts = refl

-- Texts on one line

pub record At : Type 0 where
  pub contexts : Contexts
  pub before : Before

abbrev started : Contexts → At
started contexts = record { contexts = contexts; before = behind None true }

abbrev after_turn : TokenKind → Turned → At
after_turn kind t = record { contexts = t.contexts; before = behind (Some kind) t.expr_allowed }

abbrev next : At → TokenKind → At
next at kind = after_turn kind (transition at.before at.contexts kind false)

abbrev depths : At → List TokenKind → List ℕ
depths at [] = []
depths at (kind ∷ kinds) = length (next at kind).contexts ∷ depths (next at kind) kinds

-- `x=function(){}`
function_in_place : depths (started (BraceStmt ∷ [])) (other_name ∷ AssignOp Assign ∷ keyword_kind keyword.Function ∷ LParen ∷ RParen ∷ LBrace ∷ RBrace ∷ []) ≡ 1 ∷ 1 ∷ 2 ∷ 3 ∷ 2 ∷ 3 ∷ 1 ∷ []
unfolding transition
function_in_place = refl

-- a template in a template's substitution, with the empty texts
templates : (fold next (started (BraceStmt ∷ [])) (BackQuote ∷ Template ∷ DollarLBrace ∷ BackQuote ∷ Template ∷ BackQuote ∷ RBrace ∷ Template ∷ BackQuote ∷ [])).contexts ≡ BraceStmt ∷ []
unfolding transition
templates = refl

-- a template's text and the back quote that ends it, where nothing else stands around
template_alone : (fold next (started (Tpl ∷ [])) (Template ∷ BackQuote ∷ [])).contexts ≡ []
unfolding transition
template_alone = refl
