-- The contexts of runs whose steps set none: white space is kept by template text alone, and right inside a template stands
-- what `${` opened.
use Rattle.std.specs.Prelude.{◌≡◌, Bool, true, false, not, ◌&&◌, [], ◌∷◌}
use Rattle.ecma_state.specs.Contexts.{Contexts}
use Rattle.ecma_state.specs.Transition.{tpl_on_top, transition}
use Rattle.ecma_contexts.specs.declared.transition.Before.{Before}
use Rattle.ecma_token.specs.declared.kind.TokenKind.{TokenKind}
use Rattle.ecma_token.specs.declared.kind.TokenKind.TheVariants.{BackQuote, DollarLBrace, RBrace, RParen}
use Rattle.ecma_contexts.specs.declared.token_context.TokenContext.{TokenContext}
use Rattle.ecma_contexts.specs.declared.token_context.TokenContext.TheVariants.{TplQuasi, JSXExpr}

-- a context may stand right inside others
abbrev pub may_stand : TokenContext → Contexts → Bool
may_stand TplQuasi around = true
may_stand JSXExpr around = false
may_stand top around = not (tpl_on_top around)

abbrev pub are_own : Contexts → Bool
are_own [] = true
are_own (top ∷ around) = may_stand top around && are_own around

-- template text may come on top behind these
abbrev pub opens_text : TokenKind → Bool
opens_text BackQuote = true
opens_text RBrace = true
opens_text RParen = true
opens_text kind = false

-- Laws

-- In own contexts every token that is no template's leaves own contexts, and so do a back quote and `${` in a template.
abbrev pub ContextsStayOwn : Type 0
ContextsStayOwn =
    ((before : Before) (contexts : Contexts) (kind : TokenKind) (flag : Bool) → are_own contexts ≡ true → tpl_on_top contexts ≡ false
    → are_own (transition before contexts kind flag).contexts ≡ true)
    × ((before : Before) (contexts : Contexts) (flag : Bool) → are_own contexts ≡ true → are_own (transition before contexts BackQuote flag).contexts ≡ true)
    × ((before : Before) (contexts : Contexts) (flag : Bool) → are_own contexts ≡ true → are_own (transition before contexts DollarLBrace flag).contexts ≡ true)

-- Template text comes on top behind a back quote, `}` and `)` alone.
abbrev pub TemplatesAreOpened : Type 0
TemplatesAreOpened =
    (before : Before) (contexts : Contexts) (kind : TokenKind) (flag : Bool) → are_own contexts ≡ true → tpl_on_top contexts ≡ false
    → tpl_on_top (transition before contexts kind flag).contexts ≡ true → opens_text kind ≡ true
