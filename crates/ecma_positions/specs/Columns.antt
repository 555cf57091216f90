-- Columns by what they count.
use Rattle.std.specs.Prelude.{ℕ, ◌+◌, List, drop, count_by, take}
use Rattle.ecma_span.specs.declared.place.BytePos.{BytePos}
use Rattle.ecma_positions.specs.Positions.{is_line_feed, last_line, position_in}
use Rattle.ecma_positions.specs.Units.{utf16_length}
use Rattle.ecma_positions.specs.declared.columns.Columns.{Columns}
use Rattle.ecma_positions.specs.declared.columns.Columns.TheVariants.{Bytes, Utf16}
use Rattle.ecma_positions.specs.declared.position.Position.{Position}

-- the line and the column of the place behind these bytes, in units of UTF-16
abbrev pub utf16_behind : List ℕ → Position
utf16_behind before = record { line = count_by is_line_feed before + 1; column = utf16_length (drop (last_line before) before) + 1 }

-- the line and the column of a place of a text, or of its end where the place is behind that
abbrev pub position_by : Columns → List ℕ → BytePos → Position
position_by Bytes bytes place = position_in bytes place
position_by Utf16 bytes place = utf16_behind (take place.0 bytes)
