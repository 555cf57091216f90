-- The parts of a text in their colours. The form is our own choice.
use Rattle.std.specs.Prelude.{ℕ, Bool, ◌+◌, ◌==◌, ◌&&◌, List, [], ◌∷◌, ◌++◌, Option, Some, None, flat_map, nat_le, nat_lt, slice_range, if◌then◌else◌}
use Rattle.ecma_show.specs.declared.colour.Colour.{Colour}
use Rattle.ecma_show.specs.declared.paint.Part.{Part}
use Rattle.ecma_show.specs.Colours.{set, set_any, unset, unset_any}

-- what stands for bytes: for each by the byte before it, and for the first by one that is given
abbrev pub each_behind : (ℕ → ℕ → List ℕ) → ℕ → List ℕ → List ℕ
each_behind f before [] = []
each_behind f before (b ∷ bs) = f before b ++ each_behind f b bs

-- the last of these bytes, or else the one before them
abbrev pub last_of : ℕ → List ℕ → ℕ
last_of before [] = before
last_of before (b ∷ bs) = last_of b bs

-- it goes on with a character that began before it
abbrev pub goes_on : ℕ → Bool
goes_on b = nat_le 128 b && nat_lt b 192

-- A character from U+0080 to U+00BF is the byte 194, which no other character has, and its own number.
abbrev pub lead : ℕ
lead = 194

-- A control character, of which a terminal would do something, is shown as its picture (Unicode, U+2400 to U+2421); tabs and
-- line feeds are left. The byte 194 is written with the one behind it.
abbrev pub shown_alone : ℕ → List ℕ
shown_alone b =
    if b == 10 then 10 ∷ []
    else (if b == 9 then 9 ∷ []
    else (if nat_lt b 32 then 226 ∷ (144 ∷ ((128 + b) ∷ []))
    else (if b == 127 then 226 ∷ (144 ∷ (161 ∷ []))
    else (if b == lead then []
    else b ∷ []))))

-- The control characters from U+0080 to U+009F have no pictures, and are shown as U+FFFD.
abbrev pub shown_led : ℕ → List ℕ
shown_led b = if nat_lt b 160 then 239 ∷ (191 ∷ (189 ∷ [])) else lead ∷ (b ∷ [])

-- a byte behind another one
abbrev pub shown_byte : ℕ → ℕ → List ℕ
shown_byte before b = if before == lead && goes_on b then shown_led b else shown_alone b

abbrev pub shown : List ℕ → List ℕ
shown text = each_behind shown_byte 0 text

-- no colour lasts over the end of a line
abbrev pub painted_byte : Option Colour → ℕ → ℕ → List ℕ
painted_byte None before b = shown_byte before b
painted_byte (Some colour) before b = if b == 10 then unset ++ 10 ∷ set colour else shown_byte before b

abbrev pub painted_bytes : Option Colour → ℕ → List ℕ → List ℕ
painted_bytes colour before bytes = set_any colour ++ (each_behind (painted_byte colour) before bytes ++ unset_any colour)

-- the bytes of a part
abbrev pub part_of : List ℕ → Part → List ℕ
part_of text part = slice_range text part.span.lo.0 part.span.hi.0

-- the colour of a part, where colours are asked for
abbrev pub colour_of : Bool → Part → Option Colour
colour_of colours part = if colours then part.colour else None

abbrev pub painted_part : Bool → List ℕ → ℕ → Part → List ℕ
painted_part colours text before part = painted_bytes (colour_of colours part) before (part_of text part)

-- parts behind a byte
abbrev pub painted_behind : Bool → List ℕ → ℕ → List Part → List ℕ
painted_behind colours text before [] = []
painted_behind colours text before (p ∷ ps) = painted_part colours text before p ++ painted_behind colours text (last_of before (part_of text p)) ps

abbrev pub painted : Bool → List ℕ → List Part → List ℕ
painted colours text parts = painted_behind colours text 0 parts

-- the parts of a text, one behind the other
abbrev pub joined : List ℕ → List Part → List ℕ
joined text parts = flat_map (part_of text) parts
