-- Questions of contexts, which stand in a list with the innermost first: our own choice, as ECMA-262 has none.
use Rattle.std.specs.Prelude.{Bool, true, false, not, List, [], ◌∷◌, Option, Some, None}
use Rattle.ecma_contexts.specs.declared.token_context.TokenContext.{TokenContext}
use Rattle.ecma_contexts.specs.declared.token_context.TokenContext.TheVariants.{Tpl, JSXExpr}

abbrev pub Contexts : Type 0
Contexts = List TokenContext

abbrev pub innermost : Contexts → Option TokenContext
innermost [] = None
innermost (top ∷ below) = Some top

-- the context right around the innermost
abbrev pub around_innermost : Contexts → Option TokenContext
around_innermost (top ∷ around ∷ below) = Some around
around_innermost _ = None

-- white space is part of what is read
abbrev pub keeps_space : TokenContext → Bool
keeps_space Tpl = true
keeps_space JSXExpr = true
keeps_space _ = false

-- white space may be passed over
abbrev pub can_skip_space : Contexts → Bool
can_skip_space [] = true
can_skip_space (top ∷ below) = not (keeps_space top)
