-- A cursor in a text: it stands behind some of the text's characters. All of this page is our own choice.
use Rattle.std.specs.Prelude.{ℕ, ◌+◌, ◌-◌, ◌^◌, ◌<◌, ◌≤◌, ◌≡◌, List, length, take, drop, true, if◌then◌else◌, nat_lt, Option, Some, None}
use Rattle.std.specs.Str.{chars, is_utf8, IsCharBoundary}
use Rattle.ecma_place.specs.Text.{Text, place_of}
pub use Rattle.ecma_place.specs.Text.{count_within}

-- where the text starts, its characters, and how many of them stand before the cursor
pub record Cursor : Type 0 where
  pub start : ℕ
  pub text : Text
  pub at : ℕ

-- the characters from the cursor on
abbrev pub rest : Cursor → Text
rest c = drop c.at c.text

-- the place behind the first n characters of the text
abbrev pub place_at : Cursor → ℕ → ℕ
place_at c n = place_of c.start (take n c.text)

-- the cursor's place
abbrev pub place : Cursor → ℕ
place c = place_at c c.at

-- the cursor stands within its text
abbrev pub IsWithin : Cursor → Type 0
IsWithin c = c.at ≤ length c.text

-- the cursor, n characters further
abbrev pub passed : ℕ → Cursor → Cursor
passed n c = record { start = c.start; text = c.text; at = c.at + n }

-- the cursor behind the first n characters of the text
abbrev pub moved_to : ℕ → Cursor → Cursor
moved_to n c = record { start = c.start; text = c.text; at = n }

-- the character, where it is an ASCII character
abbrev pub ascii_of : Option ℕ → Option ℕ
ascii_of None = None
ascii_of (Some c) = if nat_lt c 128 then Some c else None

-- p is the place behind a beginning of the text
abbrev pub HasPlace : Cursor → ℕ → Type 0
HasPlace c p = (n : ℕ) × (p ≡ place_at c n)

-- how many characters stand before the place p
abbrev pub index_of : Cursor → ℕ → ℕ
index_of c p = count_within (p - c.start) c.text

-- the cursor of the text with these bytes, that starts at s, at the byte o
abbrev pub cursor_at : List ℕ → ℕ → ℕ → Cursor
cursor_at bytes s o = record { start = s; text = chars bytes; at = length (chars (take o bytes)) }

-- the bytes are a text, which is cut at o into two, and whose places are numbers of 32 bits
pub record IsInput (bytes : List ℕ) (s o : ℕ) : Type 0 where
  pub utf8 : is_utf8 bytes ≡ true
  pub cut : IsCharBoundary bytes o
  pub fits : s + length bytes < 2 ^ 32
