-- Units of UTF-16, counted over the bytes of a text in UTF-8.
use Rattle.std.specs.Prelude.{ℕ, List, nat_lt, sum_by, if◌then◌else◌}

-- how many units the character has that begins with this byte, and none where the byte goes on with one that began before
abbrev pub utf16_byte : ℕ → ℕ
utf16_byte b = if nat_lt b 128 then 1 else (if nat_lt b 192 then 0 else (if nat_lt b 240 then 1 else 2))

abbrev pub utf16_length : List ℕ → ℕ
utf16_length bytes = sum_by utf16_byte bytes
