-- Which words ask for the number of tokens. The words are our own choice.
use Rattle.std.specs.Prelude.{ℕ, Bool, true, false, ◌&&◌, List, [], ◌∷◌, Option, Some, None, if◌then◌else◌, codes, nat_eq}
use Rattle.std.specs.Cmp.Lexicographic.{pointwise}

-- `count` alone, or with `ts` behind it, which asks for TypeScript
abbrev pub count_asked : List (List ℕ) → Option Bool
count_asked [] = None
count_asked (word ∷ []) = if pointwise nat_eq word (codes "count") then Some false else None
count_asked (word ∷ (option ∷ [])) =
    if pointwise nat_eq word (codes "count") && pointwise nat_eq option (codes "ts") then Some true else None
count_asked (word ∷ (option ∷ (more ∷ words))) = None
