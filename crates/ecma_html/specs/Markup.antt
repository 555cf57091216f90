-- A text with its markup. The form is our own choice.
use Rattle.std.specs.Prelude.{ℕ, ◌==◌, List, [], ◌∷◌, ◌++◌, Option, Some, None, codes, flat_map, slice_range, if◌then◌else◌}
use Rattle.ecma_styles.specs.declared.«class».Class.{Class}
use Rattle.ecma_styles.specs.Styles.{Styled, class_name}

-- references for `&`, `<`, `>` and CR, and U+FFFD for NUL
abbrev pub escaped_byte : ℕ → List ℕ
escaped_byte b =
    if b == 38 then codes "&amp;"
    else (if b == 60 then codes "&lt;"
    else (if b == 62 then codes "&gt;"
    else (if b == 13 then codes "&#13;"
    else (if b == 0 then 239 ∷ (191 ∷ (189 ∷ []))
    else b ∷ []))))

abbrev pub escaped : List ℕ → List ℕ
escaped bytes = flat_map escaped_byte bytes

abbrev pub styled_html : Option Class → List ℕ → List ℕ
styled_html None bytes = escaped bytes
styled_html (Some c) bytes = codes "<span class=\"" ++ (class_name c ++ (codes "\">" ++ (escaped bytes ++ codes "</span>")))

abbrev pub piece_html : List ℕ → Styled → List ℕ
piece_html text s = styled_html s.style (slice_range text s.span.lo.0 s.span.hi.0)

abbrev pub pieces_html : List ℕ → List Styled → List ℕ
pieces_html text pieces = flat_map (piece_html text) pieces

abbrev pub open_tag : List ℕ
open_tag = codes "<pre class=\"ecma\">" ++ 10 ∷ []

abbrev pub close_tag : List ℕ
close_tag = codes "</pre>" ++ 10 ∷ []

-- a text that starts at the place 0
abbrev pub html_of : List ℕ → List Styled → List ℕ
html_of text pieces = open_tag ++ (pieces_html text pieces ++ close_tag)
