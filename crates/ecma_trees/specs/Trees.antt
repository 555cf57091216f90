-- Lists that share their beginnings.
use Rattle.std.specs.Prelude.{◌≡◌, ◌++◌, ◌==◌, ℕ, suc, nat_lt, List, [], ◌∷◌, if◌then◌else◌, length}
use Rattle.ecma_trees.specs.declared.tree.Node.{Node}

-- the values on the way to that of a number, the newest first, where all nodes come newest first
abbrev pub way : {T : Type 0} → ℕ → List (Node T) → List T
way n [] = []
way n (e ∷ es) = if n == suc (length es) then e.value ∷ way e.before es else way n es

-- nodes came to others
abbrev pub Grows : {T : Type 0} → List (Node T) → List (Node T) → Type 0
Grows old new = (more : List (Node _)) × (new ≡ more ++ old)

-- the number of the one before the value of a number, where a node says this
abbrev pub before_in : ℕ → ℕ → ℕ
before_in before number = if nat_lt before number then before else 0
