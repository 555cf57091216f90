-- How what was gathered of the words stands to what they ask for.
use Rattle.std.specs.Prelude.{◌≡◌, Bool, true, false, Option, Some, None}
use Rattle.ecma_program.specs.Command.{Particulars}
use Rattle.ecma_program.specs.declared.particulars.Particulars as gathered

-- the same, and all numbers where there was memory for them
pub record Holds (p : Particulars) (g : gathered.Particulars) : Type 0 where
  pub options : g.options ≡ p.options
  pub last : g.last ≡ p.last
  pub awaits : g.awaits_number ≡ p.awaits
  pub rereads : g.holds_all ≡ true → g.rereads.items ≡ p.rereads

-- it is told whether they are good, and then they are gathered
abbrev pub Follows : Option Particulars → Bool → gathered.Particulars → Type 0
Follows None good g = good ≡ false
Follows (Some p) good g = (good ≡ true) × Holds p g
