-- Contexts stay plain.
use Rattle.std.proofs.Common.{◌≡◌, Bool, true, false, cond, not, ◌&&◌, [], ◌∷◌, Option, Some, refl, sym, ◌∙◌}
use Rattle.std.proofs.lemmas.Bool.{false≢true}
use Rattle.ecma_state.specs.Contexts.{Contexts}
use Rattle.ecma_joining.specs.OwnContexts.{ContextsStayOwn, TemplatesAreOpened, are_own, may_stand, opens_text}
use Rattle.ecma_state.specs.Transition.{brace_block, closed, closed_over, coloned, keyword_behind, keyword_turn, paren_behind, quoted, tpl_on_top, transition}
use Rattle.ecma_contexts.specs.declared.transition.Before.{Before}
use Rattle.ecma_syntax.specs.declared.keyword.Keyword.{Keyword}
use Rattle.ecma_syntax.specs.declared.keyword.Keyword.TheVariants as keyword
use Rattle.ecma_syntax.specs.declared.word.WordKind.TheVariants as word
use Rattle.ecma_token.specs.declared.kind.TokenKind.{TokenKind}
use Rattle.ecma_token.specs.declared.kind.TokenKind.TheVariants.{Word, BackQuote, Colon, Dot, DollarLBrace, LBrace, LParen, RBrace, RParen}
use Rattle.ecma_contexts.specs.declared.token_context.TokenContext.{TokenContext}
use Rattle.ecma_contexts.specs.declared.token_context.TokenContext.TheVariants.{BraceStmt, BraceExpr, TplQuasi, ParenStmt, ParenExpr, Tpl, FnExpr, ClassExpr}

right : (a b : Bool) → (a && b) ≡ true → b ≡ true
right true b h = h
right false b h = cc

left : (a b : Bool) → (a && b) ≡ true → a ≡ true
left true b h = refl
left false b h = cc

no_tpl : (b : Bool) → not b ≡ true → b ≡ false
no_tpl true h = cc
no_tpl false h = refl

-- what a token makes of the contexts, where it is plain and opens template text only if it may
record Goes (opens : Bool) (contexts : Contexts) : Type 0 where
  plain : are_own contexts ≡ true
  opened : tpl_on_top contexts ≡ true → opens ≡ true

still : (opens : Bool) (contexts : Contexts) → are_own contexts ≡ true → tpl_on_top contexts ≡ false → Goes opens contexts
still opens contexts p o = record { plain = p; opened = λ h. absurd (false≢true (sym o ∙ h)) }

around : (top : TokenContext) (contexts : Contexts) → are_own (top ∷ contexts) ≡ true → are_own contexts ≡ true
around top contexts p = right (may_stand top contexts) (are_own contexts) p

-- `)` and `}`

closed_over_plain : (ended over : TokenContext) (below : Contexts) → are_own (ended ∷ (over ∷ below)) ≡ true → Goes true (closed_over ended over below).contexts
closed_over_plain BraceStmt FnExpr below p = record { plain = around FnExpr below (around BraceStmt (FnExpr ∷ below) p); opened = λ h. refl }
closed_over_plain BraceStmt ClassExpr below p = record { plain = around ClassExpr below (around BraceStmt (ClassExpr ∷ below) p); opened = λ h. refl }
closed_over_plain TplQuasi Tpl below p = record { plain = around TplQuasi (Tpl ∷ below) p; opened = λ h. refl }
closed_over_plain TplQuasi over below p = record { plain = around TplQuasi (over ∷ below) p; opened = λ h. refl }
closed_over_plain ended over below p = record { plain = around ended (over ∷ below) p; opened = λ h. refl }

closed_plain : (contexts : Contexts) → are_own contexts ≡ true → Goes true (closed contexts).contexts
closed_plain [] p = record { plain = refl; opened = λ h. refl }
closed_plain (last ∷ []) p = record { plain = p; opened = λ h. refl }
closed_plain (ended ∷ (over ∷ below)) p = closed_over_plain ended over below p

-- `:`

coloned_plain : (contexts : Contexts) → are_own contexts ≡ true → tpl_on_top contexts ≡ false → Goes false (coloned contexts).contexts
coloned_plain (FnExpr ∷ below) p o = still false below (around FnExpr below p) (no_tpl (tpl_on_top below) (left (not (tpl_on_top below)) (are_own below) p))
coloned_plain (ClassExpr ∷ below) p o = still false below (around ClassExpr below p) (no_tpl (tpl_on_top below) (left (not (tpl_on_top below)) (are_own below) p))
coloned_plain contexts p o = still false contexts p o

-- a back quote

quoted_plain : (contexts : Contexts) → are_own contexts ≡ true → are_own (quoted contexts) ≡ true
quoted_plain [] p = refl
quoted_plain (Tpl ∷ below) p = around Tpl below p
quoted_plain (top ∷ below) p = p

-- a context that is pushed outside of template text

pushed : (opens : Bool) (top : TokenContext) (contexts : Contexts) → may_stand top contexts ≡ true → are_own contexts ≡ true → tpl_on_top (top ∷ contexts) ≡ false → Goes opens (top ∷ contexts)
pushed opens top contexts m p o = still opens (top ∷ contexts) (rw (m, p) refl) o

brace_plain : (b : Bool) (contexts : Contexts) → are_own contexts ≡ true → tpl_on_top contexts ≡ false → Goes false (cond b BraceStmt BraceExpr ∷ contexts)
brace_plain true contexts p o = pushed false BraceStmt contexts (rw o refl) p refl
brace_plain false contexts p o = pushed false BraceExpr contexts (rw o refl) p refl

paren_plain : (previous : Option TokenKind) (contexts : Contexts) → are_own contexts ≡ true → tpl_on_top contexts ≡ false → Goes false (paren_behind previous ∷ contexts)
paren_plain (Some (Word (word.Keyword keyword.If))) contexts p o = pushed false (ParenStmt false) contexts (rw o refl) p refl
paren_plain (Some (Word (word.Keyword keyword.With))) contexts p o = pushed false (ParenStmt false) contexts (rw o refl) p refl
paren_plain (Some (Word (word.Keyword keyword.While))) contexts p o = pushed false (ParenStmt false) contexts (rw o refl) p refl
paren_plain (Some (Word (word.Keyword keyword.For))) contexts p o = pushed false (ParenStmt true) contexts (rw o refl) p refl
paren_plain previous contexts p o = pushed false ParenExpr contexts (rw o refl) p refl

-- `function` and `class`

fn_plain : (b : Bool) (contexts : Contexts) → are_own contexts ≡ true → tpl_on_top contexts ≡ false → Goes false (cond b (FnExpr ∷ contexts) contexts)
fn_plain true contexts p o = pushed false FnExpr contexts (rw o refl) p refl
fn_plain false contexts p o = still false contexts p o

class_plain : (b : Bool) (contexts : Contexts) → are_own contexts ≡ true → tpl_on_top contexts ≡ false → Goes false (cond b (ClassExpr ∷ contexts) contexts)
class_plain true contexts p o = pushed false ClassExpr contexts (rw o refl) p refl
class_plain false contexts p o = still false contexts p o

keyword_plain : (k : Keyword) (before : Before) (contexts : Contexts) (flag : Bool) → are_own contexts ≡ true → tpl_on_top contexts ≡ false
    → Goes false (keyword_turn k before contexts flag).contexts
keyword_plain keyword.Function before contexts flag p o =
    fn_plain (before.expr_allowed && not (brace_block contexts before.previous flag before.expr_allowed)) contexts p o
keyword_plain keyword.Class before contexts flag p o =
    class_plain (before.expr_allowed && not (brace_block contexts before.previous flag before.expr_allowed)) contexts p o
keyword_plain k before contexts flag p o = still false contexts p o

behind_plain : (previous : Option TokenKind) (k : Keyword) (before : Before) (contexts : Contexts) (flag : Bool) → are_own contexts ≡ true → tpl_on_top contexts ≡ false
    → Goes false (keyword_behind previous k before contexts flag).contexts
behind_plain (Some Dot) k before contexts flag p o = still false contexts p o
behind_plain previous k before contexts flag p o = keyword_plain k before contexts flag p o

-- every token

goes : (before : Before) (contexts : Contexts) (kind : TokenKind) (flag : Bool) → are_own contexts ≡ true → tpl_on_top contexts ≡ false
    → Goes (opens_text kind) (transition before contexts kind flag).contexts
unfolding transition
goes before contexts (Word (word.Keyword k)) flag p o = behind_plain before.previous k before contexts flag p o
goes before contexts (Word (word.Ident name)) flag p o = still false contexts p o
goes before contexts RParen flag p o = closed_plain contexts p
goes before contexts RBrace flag p o = closed_plain contexts p
goes before contexts Colon flag p o = coloned_plain contexts p o
goes before contexts LBrace flag p o = brace_plain (brace_block contexts before.previous flag before.expr_allowed) contexts p o
goes before contexts DollarLBrace flag p o = pushed false TplQuasi contexts refl p refl
goes before contexts LParen flag p o = paren_plain before.previous contexts p o
goes before contexts BackQuote flag p o = record { plain = quoted_plain contexts p; opened = λ h. refl }
goes before contexts kind flag p o = still (opens_text kind) contexts p o

dollar_plain : (before : Before) (contexts : Contexts) (flag : Bool) → are_own contexts ≡ true → are_own (transition before contexts DollarLBrace flag).contexts ≡ true
unfolding transition
dollar_plain before contexts flag p = p

back_quote_plain : (before : Before) (contexts : Contexts) (flag : Bool) → are_own contexts ≡ true → are_own (transition before contexts BackQuote flag).contexts ≡ true
unfolding transition
back_quote_plain before contexts flag p = quoted_plain contexts p

pub contexts_stay_own : ContextsStayOwn
contexts_stay_own = (λ before contexts kind flag p o. (goes before contexts kind flag p o).plain, back_quote_plain, dollar_plain)

pub templates_are_opened : TemplatesAreOpened
templates_are_opened before contexts kind flag p o h = (goes before contexts kind flag p o).opened h
