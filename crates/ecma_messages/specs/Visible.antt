-- How text is written so that nothing in it controls a terminal. The form is our own choice.
use Rattle.std.specs.Prelude.{ℕ, Bool, ◌/◌, ◌%◌, ◌==◌, ◌||◌, ◌&&◌, List, [], ◌∷◌, ◌++◌, codes, flat_map, nat_le, slice_index, if◌then◌else◌}
pub use Rattle.std.specs.Char.{encode_utf8}
use Rattle.std.specs.Char.{is_control}
use Rattle.std.specs.Str.{chars}

-- it reorders what stands around it: U+202A to U+202E and U+2066 to U+2069 (Unicode Standard Annex 9, 2)
abbrev pub is_reordering : ℕ → Bool
is_reordering c = (nat_le 0x202A c && nat_le c 0x202E) || (nat_le 0x2066 c && nat_le c 0x2069)

-- a terminal does something for it besides showing it: control characters (U+0000 to U+001F, U+007F to U+009F) and those
abbrev pub is_obeyed : ℕ → Bool
is_obeyed c = is_control c || is_reordering c

-- the last hexadecimal digit of a number
abbrev pub hex_digit : ℕ → ℕ
hex_digit n = slice_index (codes "0123456789abcdef") (n % 16)

-- the escape of a character of at most four digits, as `\u001b`
abbrev pub escape : ℕ → List ℕ
escape c = 92 ∷ (117 ∷ (hex_digit (c / 4096) ∷ (hex_digit (c / 256) ∷ (hex_digit (c / 16) ∷ (hex_digit c ∷ [])))))

-- such a character is spelled as an escape
abbrev pub shown_char : ℕ → List ℕ
shown_char c = if is_obeyed c then escape c else encode_utf8 c

abbrev pub name_char : ℕ → List ℕ
name_char c =
    if c == 92 then 92 ∷ (92 ∷ []) else (if c == 10 then 92 ∷ (110 ∷ []) else (if c == 13 then 92 ∷ (114 ∷ []) else shown_char c))

abbrev pub message_char : ℕ → List ℕ
message_char c = if c == 10 || c == 13 then 32 ∷ [] else (if c == 9 then 9 ∷ [] else shown_char c)

abbrev pub line_char : ℕ → List ℕ
line_char c = if c == 10 then 10 ∷ [] else (if c == 9 then 9 ∷ [] else shown_char c)

-- the name of a file
abbrev pub name_text : List ℕ → List ℕ
name_text name = flat_map name_char (chars name)

-- a message, in one line
abbrev pub message_text : List ℕ → List ℕ
message_text message = flat_map message_char (chars message)

-- lines
abbrev pub lines_text : List ℕ → List ℕ
lines_text lines = flat_map line_char (chars lines)

-- a line about a file
abbrev pub line_about : List ℕ → List ℕ → List ℕ
line_about name message = name_text name ++ (codes ": " ++ (message_text message ++ 10 ∷ []))

-- a byte of a name that is no UTF-8
abbrev pub byte_text : ℕ → List ℕ
byte_text b =
    if b == 92 then 92 ∷ (92 ∷ [])
    else (if nat_le 32 b && nat_le b 126 then b ∷ [] else 92 ∷ (120 ∷ (hex_digit (b / 16) ∷ (hex_digit b ∷ []))))
