-- Texts and places. All of this page is our own choice; ECMA-262 knows no places.
-- A text is a list of characters, each by its code point, and its bytes are their UTF-8 forms.
use Rattle.std.specs.Prelude.{ℕ, ◌+◌, ◌-◌, List, [], ◌∷◌, length, encode_utf8_all, slice_range, if◌then◌else◌, nat_le}
use Rattle.std.specs.Char.{len_utf8}

abbrev pub Text : Type 0
Text = List ℕ

-- how many bytes the characters take
abbrev pub byte_len : Text → ℕ
byte_len cs = length (encode_utf8_all cs)

-- the place behind a beginning of a text that starts at the place `start`
abbrev pub place_of : ℕ → Text → ℕ
place_of start front = start + byte_len front

-- how many characters of the text stand whole in its first n bytes
abbrev pub count_within : ℕ → Text → ℕ
count_within n [] = 0
count_within n (c ∷ cs) = if nat_le (len_utf8 c) n then 1 + count_within (n - len_utf8 c) cs else 0

-- the part of a text that starts at the place `start`, from its place p up to its place q
abbrev pub slice_between : ℕ → Text → ℕ → ℕ → Text
slice_between start text p q = slice_range text (count_within (p - start) text) (count_within (q - start) text)
