-- What a text begins with. The words are our own choice.
use Rattle.std.specs.Prelude.{ℕ, Bool, true, false, not, ◌&&◌, ◌==◌, [], ◌∷◌, if◌then◌else◌}
use Rattle.ecma_place.specs.Text.{Text}
use Rattle.ecma_place.specs.Character.{is_line_terminator}

-- the longest front whose characters pass, and what follows it
abbrev pub front : (ℕ → Bool) → Text → Text
front p [] = []
front p (c ∷ cs) = if p c then c ∷ front p cs else []

abbrev pub after : (ℕ → Bool) → Text → Text
after p [] = []
after p (c ∷ cs) = if p c then after p cs else c ∷ cs

-- the text begins with a character that passes
abbrev pub next_passes : (ℕ → Bool) → Text → Bool
next_passes p [] = false
next_passes p (c ∷ cs) = p c

abbrev pub is : ℕ → ℕ → Bool
is x c = c == x

-- the text begins with the character
abbrev pub next_is : ℕ → Text → Bool
next_is x text = next_passes (is x) text

-- the text begins with these characters
abbrev pub begins_with : Text → Text → Bool
begins_with [] text = true
begins_with (x ∷ xs) [] = false
begins_with (x ∷ xs) (c ∷ cs) = (c == x) && begins_with xs cs

-- up to the first line terminator or the end, and from there on
abbrev pub in_line : ℕ → Bool
in_line c = not (is_line_terminator c)

abbrev pub line : Text → Text
line text = front in_line text

abbrev pub behind_line : Text → Text
behind_line text = after in_line text
