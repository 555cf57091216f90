-- A character in single quotes, as messages show it.
use Rattle.std.specs.Prelude.{ℕ, List, [], ◌∷◌, ◌++◌, encode_utf8, false, if◌then◌else◌, nat_lt, ◌==◌, ◌||◌}
use Rattle.std.specs.Fmt.{digits}

-- 39 is the quote, 92 the backslash
abbrev pub in_quotes : List ℕ → List ℕ
in_quotes text = 39 ∷ text ++ 39 ∷ []

-- the quote and the backslash stand behind a backslash, as do 0, t, n and r for NUL, tab, LF and CR; any other ASCII
-- control character is its number in braces, hexadecimal in lower case; all else stands as itself
abbrev pub quoted_char : ℕ → List ℕ
quoted_char c =
    if c == 39 then in_quotes (92 ∷ 39 ∷ [])
    else if c == 92 then in_quotes (92 ∷ 92 ∷ [])
    else if c == 0 then in_quotes (92 ∷ 48 ∷ [])
    else if c == 9 then in_quotes (92 ∷ 116 ∷ [])
    else if c == 10 then in_quotes (92 ∷ 110 ∷ [])
    else if c == 13 then in_quotes (92 ∷ 114 ∷ [])
    else if nat_lt c 32 || (c == 127) then in_quotes (92 ∷ 117 ∷ 123 ∷ digits 16 false c ++ 125 ∷ [])
    else in_quotes (encode_utf8 c)
