-- Where a count of lines stands.
use Rattle.std.specs.Prelude.{◌≡◌, ◌≤◌, ◌<◌, ◌+◌, ◌-◌, ℕ, List, true, false, count_by, length, slice_index, take}
use Rattle.ecma_positions.specs.Positions.{is_line_feed}
use Rattle.ecma_print.specs.Units.{CountsUnits}
use Rattle.ecma_print.specs.declared.lines.Lines.{Lines}

-- a line of a text with these bytes begins there, and a place lies in it, or at its end
pub record IsInLine (bytes : List ℕ) (start place : ℕ) : Type 0 where
  pub order : start ≤ place
  pub unbroken : (k : ℕ) → start ≤ k → k < place → is_line_feed (slice_index bytes k) ≡ false
  pub begins : 0 < start → is_line_feed (slice_index bytes (start - 1)) ≡ true

-- it knows the line of a place of a text with these bytes, and where that line begins
pub record Counts (bytes : List ℕ) (lines : Lines) : Type 0 where
  pub within : lines.place ≤ length bytes
  pub line : lines.line ≡ count_by is_line_feed (take lines.place bytes) + 1
  pub in_line : IsInLine bytes lines.start lines.place
  pub units : CountsUnits bytes lines.units
