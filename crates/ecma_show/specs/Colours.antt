-- The sequences that set a terminal's colours (ECMA-48, 8.3.117).
use Rattle.std.specs.Prelude.{ℕ, List, [], ◌∷◌, Option, Some, None, codes}
use Rattle.ecma_show.specs.declared.colour.Colour.{Colour}
use Rattle.ecma_show.specs.declared.colour.Colour.TheVariants.{Red, Green, Yellow, Blue, Magenta, Cyan, Grey}

abbrev pub set : Colour → List ℕ
set Red = 27 ∷ codes "[31m"
set Green = 27 ∷ codes "[32m"
set Yellow = 27 ∷ codes "[33m"
set Blue = 27 ∷ codes "[34m"
set Magenta = 27 ∷ codes "[35m"
set Cyan = 27 ∷ codes "[36m"
set Grey = 27 ∷ codes "[90m"

abbrev pub unset : List ℕ
unset = 27 ∷ codes "[0m"

-- those around text that has a colour, or none

abbrev pub set_any : Option Colour → List ℕ
set_any None = []
set_any (Some colour) = set colour

abbrev pub unset_any : Option Colour → List ℕ
unset_any None = []
unset_any (Some colour) = unset
