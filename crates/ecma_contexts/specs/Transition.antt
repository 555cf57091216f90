-- How a token changes the contexts and whether an expression may begin: our own choice, as ECMA-262 leaves it to the
-- parser when a slash begins a regular expression and where a template goes on.
use Rattle.std.specs.Prelude.{Bool, true, false, not, ◌&&◌, ◌||◌, [], ◌∷◌, Option, Some, None, if◌then◌else◌}
use Rattle.ecma_word.specs.declared.keyword.Keyword.{Keyword}
use Rattle.ecma_word.specs.declared.keyword.Keyword.TheVariants as keyword
use Rattle.ecma_word.specs.declared.known_ident.KnownIdent.TheVariants as known
use Rattle.ecma_word.specs.declared.word.IdentKind.{IdentKind}
use Rattle.ecma_word.specs.declared.word.IdentKind.TheVariants as name
use Rattle.ecma_word.specs.declared.word.WordKind.TheVariants as word
use Rattle.ecma_word.specs.declared.operator.BinOpToken.TheVariants.{Lt, Gt}
use Rattle.ecma_token_kind.specs.Questions.{before_expr, keyword_before_expr, is_other}
use Rattle.ecma_token_kind.specs.declared.kind.TokenKind.{TokenKind}
use Rattle.ecma_token_kind.specs.declared.kind.TokenKind.TheVariants.{Word, BinOp, Arrow, BackQuote, Colon, Dot, DollarLBrace, LBrace, LParen, MinusMinus, PlusPlus, RBrace, RParen, Semi}
use Rattle.ecma_contexts.specs.Contexts.{Contexts}
use Rattle.ecma_contexts.specs.declared.token_context.TokenContext.{TokenContext}
use Rattle.ecma_contexts.specs.declared.token_context.TokenContext.TheVariants.{BraceStmt, BraceExpr, TplQuasi, ParenStmt, ParenExpr, Tpl, FnExpr, ClassExpr, JSXOpeningTag, JSXClosingTag}
use Rattle.ecma_contexts.specs.declared.transition.Before.{Before}

-- what a token leaves: the contexts, and whether an expression may begin
pub record Turned : Type 0 where
  pub contexts : Contexts
  pub expr_allowed : Bool

abbrev pub turned : Contexts → Bool → Turned
turned contexts expr_allowed = record { contexts = contexts; expr_allowed = expr_allowed }

-- Questions of contexts

-- a template's text is read
abbrev pub tpl_on_top : Contexts → Bool
tpl_on_top (Tpl ∷ below) = true
tpl_on_top _ = false

-- the parentheses of a `for`
abbrev pub for_on_top : Contexts → Bool
for_on_top (ParenStmt is_for_loop ∷ below) = is_for_loop
for_on_top _ = false

-- what ended there may have an expression behind it
abbrev pub ends_statement : TokenContext → Bool
ends_statement BraceStmt = true
ends_statement (ParenStmt is_for_loop) = true
ends_statement JSXOpeningTag = true
ends_statement JSXClosingTag = true
ends_statement _ = false

-- Whether `{` begins a block, behind a token of some kind, where the flag stands or not, and an expression may begin or
-- not

abbrev pub block_behind_colon : Contexts → Bool → Bool
block_behind_colon (BraceStmt ∷ below) expr_allowed = true
block_behind_colon (BraceExpr ∷ below) expr_allowed = false
block_behind_colon _ expr_allowed = not expr_allowed

abbrev pub block_behind_brace : Contexts → Bool
block_behind_brace (BraceExpr ∷ JSXOpeningTag ∷ below) = true
block_behind_brace (BraceStmt ∷ below) = true
block_behind_brace _ = false

abbrev pub block_behind_other : Bool → Bool → TokenKind → Bool
block_behind_other flag expr_allowed kind = (flag && (is_other kind && not (before_expr kind))) || not expr_allowed

abbrev pub brace_block : Contexts → Option TokenKind → Bool → Bool → Bool
brace_block contexts None flag expr_allowed = true
brace_block contexts (Some Colon) flag expr_allowed = block_behind_colon contexts expr_allowed
brace_block contexts (Some (Word (word.Keyword keyword.Return))) flag expr_allowed = flag
brace_block contexts (Some (Word (word.Keyword keyword.Yield))) flag expr_allowed = flag
brace_block contexts (Some (Word (word.Keyword keyword.Else))) flag expr_allowed = true
brace_block contexts (Some Semi) flag expr_allowed = true
brace_block contexts (Some RParen) flag expr_allowed = true
brace_block contexts (Some LBrace) flag expr_allowed = block_behind_brace contexts
brace_block contexts (Some (BinOp Lt)) flag expr_allowed = true
brace_block contexts (Some (BinOp Gt)) flag expr_allowed = true
brace_block contexts (Some Arrow) flag expr_allowed = true
brace_block contexts (Some kind) flag expr_allowed = block_behind_other flag expr_allowed kind

-- The rows by the new token

-- `)` or `}`, where the context that it ends stood right inside another
abbrev pub closed_over : TokenContext → TokenContext → Contexts → Turned
closed_over BraceStmt FnExpr below = turned below false
closed_over BraceStmt ClassExpr below = turned below false
closed_over TplQuasi Tpl below = turned (Tpl ∷ below) false
closed_over TplQuasi around below = turned (around ∷ below) true
closed_over ended around below = turned (around ∷ below) (ends_statement ended)

-- `)` or `}`; the outermost context stays
abbrev pub closed : Contexts → Turned
closed [] = turned [] true
closed (last ∷ []) = turned (last ∷ []) true
closed (ended ∷ around ∷ below) = closed_over ended around below

-- `function` or `class`, which pushes a context where it begins an expression
abbrev pub defined : TokenContext → Before → Contexts → Bool → Turned
defined pushed before contexts flag =
    turned (if before.expr_allowed && not (brace_block contexts before.previous flag before.expr_allowed) then pushed ∷ contexts else contexts) false

abbrev pub keyword_turn : Keyword → Before → Contexts → Bool → Turned
keyword_turn keyword.Function before contexts flag = defined FnExpr before contexts flag
keyword_turn keyword.Class before contexts flag = defined ClassExpr before contexts flag
keyword_turn k before contexts flag = turned contexts (keyword_before_expr k)

-- a keyword, which is a name behind a dot
abbrev pub keyword_behind : Option TokenKind → Keyword → Before → Contexts → Bool → Turned
keyword_behind (Some Dot) k before contexts flag = turned contexts false
keyword_behind _ k before contexts flag = keyword_turn k before contexts flag

-- `:`
abbrev pub coloned : Contexts → Turned
coloned (FnExpr ∷ below) = turned below true
coloned (ClassExpr ∷ below) = turned below true
coloned contexts = turned contexts true

-- a name

abbrev pub declares : Option TokenKind → Bool
declares (Some (Word (word.Keyword keyword.Let))) = true
declares (Some (Word (word.Keyword keyword.Const))) = true
declares (Some (Word (word.Keyword keyword.Var))) = true
declares _ = false

abbrev pub not_before_expr : Option TokenKind → Bool
not_before_expr None = true
not_before_expr (Some kind) = not (before_expr kind)

abbrev pub name_declared : Before → Bool
name_declared before = declares before.previous && before.previous_flag

abbrev pub name_allows : IdentKind → Before → Contexts → Bool
name_allows (name.Known known.Of) before contexts =
    if for_on_top contexts then not_before_expr before.previous else name_declared before
name_allows _ before contexts = name_declared before

-- `(`
abbrev pub paren_behind : Option TokenKind → TokenContext
paren_behind (Some (Word (word.Keyword keyword.If))) = ParenStmt false
paren_behind (Some (Word (word.Keyword keyword.With))) = ParenStmt false
paren_behind (Some (Word (word.Keyword keyword.While))) = ParenStmt false
paren_behind (Some (Word (word.Keyword keyword.For))) = ParenStmt true
paren_behind _ = ParenExpr

-- `{`
abbrev pub brace_behind : Before → Contexts → Bool → TokenContext
brace_behind before contexts flag =
    if brace_block contexts before.previous flag before.expr_allowed then BraceStmt else BraceExpr

-- a back quote
abbrev pub quoted : Contexts → Contexts
quoted (Tpl ∷ below) = below
quoted contexts = Tpl ∷ contexts

-- what a token of this kind and with this flag leaves
unfoldable pub transition : Before → Contexts → TokenKind → Bool → Turned
transition before contexts (Word (word.Keyword k)) flag = keyword_behind before.previous k before contexts flag
transition before contexts (Word (word.Ident name)) flag = turned contexts (name_allows name before contexts)
transition before contexts RParen flag = closed contexts
transition before contexts RBrace flag = closed contexts
transition before contexts Colon flag = coloned contexts
transition before contexts LBrace flag = turned (brace_behind before contexts flag ∷ contexts) true
transition before contexts DollarLBrace flag = turned (TplQuasi ∷ contexts) true
transition before contexts LParen flag = turned (paren_behind before.previous ∷ contexts) true
transition before contexts PlusPlus flag = turned contexts before.expr_allowed
transition before contexts MinusMinus flag = turned contexts before.expr_allowed
transition before contexts BackQuote flag = turned (quoted contexts) false
transition before contexts kind flag = turned contexts (before_expr kind)
