-- Two contexts in one byte, and a stack of contexts by such pairs: our own choice.
use Rattle.std.specs.Prelude.{◌≡◌, ◌==◌, ◌/◌, ◌%◌, ℕ, true, false, List, [], ◌∷◌, Option, None, Some, if◌then◌else◌}
use Rattle.ecma_contexts.specs.declared.context_pair.ContextPair.{ContextPair}
use Rattle.ecma_contexts.specs.declared.token_context.TokenContext.{TokenContext}
use Rattle.ecma_contexts.specs.declared.token_context.TokenContext.TheVariants.{BraceStmt, BraceExpr, TplQuasi, ParenStmt, ParenExpr, Tpl, FnExpr, ClassExpr, JSXOpeningTag, JSXClosingTag, JSXExpr}
use Rattle.ecma_contexts.specs.Contexts.{Contexts}

-- the number of a context
abbrev pub number_of : TokenContext → ℕ
number_of BraceStmt = 0
number_of BraceExpr = 1
number_of TplQuasi = 2
number_of (ParenStmt false) = 3
number_of (ParenStmt true) = 4
number_of ParenExpr = 5
number_of Tpl = 6
number_of FnExpr = 7
number_of ClassExpr = 8
number_of JSXOpeningTag = 9
number_of JSXClosingTag = 10
number_of JSXExpr = 11

-- the context of a number
abbrev pub context_at : ℕ → TokenContext
context_at n =
    if n == 0 then BraceStmt else
    if n == 1 then BraceExpr else
    if n == 2 then TplQuasi else
    if n == 3 then ParenStmt false else
    if n == 4 then ParenStmt true else
    if n == 5 then ParenExpr else
    if n == 6 then Tpl else
    if n == 7 then FnExpr else
    if n == 8 then ClassExpr else
    if n == 9 then JSXOpeningTag else
    if n == 10 then JSXClosingTag else JSXExpr

-- the context of a pair that is inside of the other, and that which is around it
abbrev pub inner_of : ContextPair → TokenContext
inner_of p = context_at (p.code / 16)

abbrev pub outer_of : ContextPair → TokenContext
outer_of p = context_at (p.code % 16)

-- the contexts of pairs, the innermost first
abbrev pub unpaired : List ContextPair → Contexts
unpaired [] = []
unpaired (p ∷ ps) = inner_of p ∷ (outer_of p ∷ unpaired ps)

-- a context, where there is one, inside of others
abbrev pub inside : Option TokenContext → Contexts → Contexts
inside None around = around
inside (Some c) around = c ∷ around

-- the contexts of a stack: the innermost, the one around it that is in no pair, and pairs, of which the innermost comes first
abbrev pub contexts_of : Option TokenContext → Option TokenContext → List ContextPair → Contexts
contexts_of top under pairs = inside top (inside under (unpaired pairs))

-- where there is no innermost context there is none
pub record IsStack (top under : Option TokenContext) (pairs : List ContextPair) : Type 0 where
  pub none_under : top ≡ None → under ≡ None
  pub none_paired : top ≡ None → pairs ≡ []
