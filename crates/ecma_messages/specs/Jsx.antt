-- Texts that look like JSX. Our own choice.
use Rattle.std.specs.Prelude.{ℕ, Bool, false, ◌==◌, ◌||◌, ◌&&◌, List, [], ◌∷◌}
use Rattle.std.specs.Char.{is_ascii_alphabetic}

-- `</`, and a letter or `>`
abbrev pub closes_element : List ℕ → Bool
closes_element (a ∷ (b ∷ (c ∷ cs))) = ((a == 60) && (b == 47)) && ((c == 62) || is_ascii_alphabetic c)
closes_element _ = false

-- that stands somewhere in these bytes
abbrev pub looks_like_jsx : List ℕ → Bool
looks_like_jsx [] = false
looks_like_jsx (b ∷ bs) = closes_element (b ∷ bs) || looks_like_jsx bs
