-- How bytes are written so that they stand in one line. Our own choice.
use Rattle.std.specs.Prelude.{ℕ, List, [], ◌∷◌, flat_map, if◌then◌else◌, ◌==◌}

-- a backslash, a line feed and a carriage return are written with a backslash
abbrev pub escaped_byte : ℕ → List ℕ
escaped_byte b = if b == 92 then 92 ∷ (92 ∷ []) else (if b == 10 then 92 ∷ (110 ∷ []) else (if b == 13 then 92 ∷ (114 ∷ []) else b ∷ []))

abbrev pub escaped : List ℕ → List ℕ
escaped bytes = flat_map escaped_byte bytes
