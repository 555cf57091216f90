-- What is shown of a text: each line behind its number, and marks below the lines. The form is our own choice.
use Rattle.std.specs.Prelude.{ℕ, Bool, ◌+◌, ◌-◌, ◌==◌, List, [], ◌∷◌, ◌++◌, Option, Some, None, codes, count_by, decimal, flat_map, length, nat_le, replicate, slice_range, if◌then◌else◌}
use Rattle.ecma_show.specs.declared.colour.Colour.{Colour}
use Rattle.ecma_show.specs.declared.colour.Colour.TheVariants.{Red}
use Rattle.ecma_show.specs.declared.frame.Frame.{Frame}
use Rattle.ecma_show.specs.declared.mark.Mark.{Mark}
use Rattle.ecma_show.specs.declared.paint.Part.{Part}
use Rattle.std.specs.String.{string_bytes}
use Rattle.ecma_show.specs.Colours.{set_any, unset_any}
use Rattle.ecma_show.specs.Painted.{each_behind, goes_on, painted, shown_byte}

-- Margins

abbrev pub bar : List ℕ
bar = codes " | "

-- that of a line with this number
abbrev pub margin : ℕ → ℕ → List ℕ
margin width number = decimal number ++ (replicate (width - length (decimal number)) 32 ++ bar)

-- that of a line of marks
abbrev pub blank : ℕ → List ℕ
blank width = replicate width 32 ++ bar

-- Marks

-- what stands below a byte before the place of a mark: a tab below a tab, and else a space below each character
abbrev pub pad_byte : ℕ → List ℕ
pad_byte b = if b == 9 then 9 ∷ [] else (if goes_on b then [] else 32 ∷ [])

abbrev pub pad : List ℕ → List ℕ
pad bytes = flat_map pad_byte bytes

-- a caret below each character
abbrev pub caret_byte : ℕ → List ℕ
caret_byte b = if goes_on b then [] else 94 ∷ []

-- the bytes before the first line feed
abbrev pub line_part : List ℕ → List ℕ
line_part [] = []
line_part (b ∷ bs) = if b == 10 then [] else b ∷ line_part bs

-- A place is pointed at where it is among the first 400 bytes of its line, with carets below 400 bytes at most; of any other the
-- column is told.
abbrev pub most : ℕ
most = 400

-- the bytes of the line before a place in this column
abbrev pub before : List ℕ → Mark → List ℕ
before text mark = slice_range text (mark.span.lo.0 + 1 - mark.column) mark.span.lo.0

-- a caret below the place, and below each further character of these bytes in its line
abbrev pub carets : List ℕ → List ℕ
carets bytes = 94 ∷ flat_map caret_byte (slice_range (line_part bytes) 1 most)

abbrev pub below_span : List ℕ → Mark → List ℕ
below_span text mark = carets (slice_range text mark.span.lo.0 mark.span.hi.0)

abbrev pub column_text : ℕ → List ℕ
column_text column = codes "column " ++ (decimal column ++ 58 ∷ [])

abbrev pub pointer : List ℕ → Mark → List ℕ
pointer text mark = if nat_le mark.column most then pad (before text mark) ++ below_span text mark else column_text mark.column

-- a message, in one line
abbrev pub message_byte : ℕ → ℕ → List ℕ
message_byte before b = if b == 10 then 32 ∷ [] else shown_byte before b

abbrev pub message_text : List ℕ → List ℕ
message_text message = each_behind message_byte 0 message

-- the colour of marks, where colours are asked for
abbrev pub mark_colour : Bool → Option Colour
mark_colour colours = if colours then Some Red else None

abbrev pub mark_line : List ℕ → Frame → Mark → List ℕ
mark_line text frame mark =
    blank frame.width
    ++ (set_any (mark_colour frame.colours)
    ++ (pointer text mark
    ++ (32 ∷ (message_text (string_bytes mark.message) ++ (unset_any (mark_colour frame.colours) ++ 10 ∷ [])))))

-- those of the marks in front that are of a line with this number, or of one before it
abbrev pub marks_at : List ℕ → Frame → ℕ → List Mark → List ℕ
marks_at text frame number [] = []
marks_at text frame number (m ∷ ms) = if nat_le m.line number then mark_line text frame m ++ marks_at text frame number ms else []

-- the marks behind those
abbrev pub marks_behind : ℕ → List Mark → List Mark
marks_behind number [] = []
marks_behind number (m ∷ ms) = if nat_le m.line number then marks_behind number ms else m ∷ ms

abbrev pub all_marks : List ℕ → Frame → List Mark → List ℕ
all_marks text frame marks = flat_map (mark_line text frame) marks

-- Lines

-- The rest of a line with this number, and the lines behind it: below each those of the marks that are of it, and below the last
-- all that are left.
abbrev pub numbered : List ℕ → Frame → ℕ → List Mark → List ℕ → List ℕ
numbered text frame number marks [] = 10 ∷ all_marks text frame marks
numbered text frame number marks (b ∷ bs) =
    if b == 10
    then 10 ∷ (marks_at text frame number marks ++ (margin frame.width (number + 1) ++ numbered text frame (number + 1) (marks_behind number marks) bs))
    else b ∷ numbered text frame number marks bs

-- so many columns has the number of the last line
abbrev pub width_of : List ℕ → ℕ
width_of text = length (decimal (count_by (λ b. b == 10) text + 1))

abbrev pub frame_of : List ℕ → Bool → Frame
frame_of text colours = record { width = width_of text; colours = colours }

abbrev pub lines_of : List ℕ → Frame → List Part → List Mark → List ℕ
lines_of text frame parts marks = margin frame.width 1 ++ numbered text frame 1 marks (painted frame.colours text parts)

abbrev pub shown_text : List ℕ → List Part → List Mark → Bool → List ℕ
shown_text text parts marks colours = lines_of text (frame_of text colours) parts marks
