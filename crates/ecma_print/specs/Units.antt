-- Units of UTF-16 that were counted.
use Rattle.std.specs.Prelude.{◌≡◌, ◌≤◌, ℕ, List, length, slice_range}
use Rattle.ecma_positions.specs.Units.{utf16_length}
use Rattle.ecma_print.specs.declared.units.Units.{Units}

-- so many lie between the two places of a text with these bytes
pub record CountsUnits (bytes : List ℕ) (units : Units) : Type 0 where
  pub order : units.start ≤ units.place
  pub within : units.place ≤ length bytes
  pub count : units.count ≡ utf16_length (slice_range bytes units.start units.place)
