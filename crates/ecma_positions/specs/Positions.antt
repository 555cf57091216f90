-- Lines and columns of the places of a text, which starts at the place 0.
use Rattle.std.specs.Prelude.{List, [], ◌∷◌, ℕ, Bool, ◌+◌, ◌-◌, if◌then◌else◌, not, length, nat_eq, take, count_by}
use Rattle.std.specs.List.{suffix_len}
use Rattle.ecma_span.specs.declared.place.BytePos.{BytePos}
use Rattle.ecma_positions.specs.declared.position.Position.{Position}

abbrev pub is_line_feed : ℕ → Bool
is_line_feed byte = nat_eq byte 10

-- the place at which the last line of bytes begins: as many of their last bytes as are no line feed stand on it
abbrev pub last_line : List ℕ → ℕ
last_line bytes = length bytes - suffix_len (λ byte. not (is_line_feed byte)) bytes

-- the line and the column of a place, by the bytes that stand before it
abbrev pub position_behind : List ℕ → ℕ → Position
position_behind before place = record { line = count_by is_line_feed before + 1; column = place - last_line before + 1 }

-- the line and the column of a place of a text
abbrev pub position_in : List ℕ → BytePos → Position
position_in bytes place = position_behind (take place.0 bytes) place.0

-- the places behind the line feeds of bytes that stand behind so many others
abbrev pub line_starts_behind : ℕ → List ℕ → List ℕ
line_starts_behind before [] = []
line_starts_behind before (byte ∷ bytes) =
    if is_line_feed byte then (before + 1) ∷ line_starts_behind (before + 1) bytes else line_starts_behind (before + 1) bytes

-- the places behind the line feeds of a text
abbrev pub line_starts : List ℕ → List ℕ
line_starts bytes = line_starts_behind 0 bytes
