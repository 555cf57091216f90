-- Gaps of which nothing is to be told but the flag: of white space alone, or with comments of which none is collected.
use Rattle.std.specs.Prelude.{◌≡◌, ◌⊎◌, Bool, true, false, ◌||◌, ◌&&◌, [], codes, length, slice_get, Option, Some, None, option_map, if◌then◌else◌}
use Rattle.ecma_place.specs.Cursor.{Cursor, ascii_of, rest, place, passed}
use Rattle.std.specs.List.{list_any, take_while}
use Rattle.ecma_place.specs.Text.{Text}
use Rattle.ecma_place.specs.Character.{is_line_terminator, is_white_space}
use Rattle.ecma_grammar.specs.Bars.{common_cutter, common_element}
use Rattle.ecma_grammar.specs.Pieces.{pieces, spelled}
use Rattle.ecma_grammar.specs.Comments.{comments_at}
use Rattle.ecma_grammar.specs.Fronts.{begins_with, next_is}
use Rattle.ecma_grammar.specs.Gaps.{Element, Blank, LineComment, BlockComment, OpenComment, HtmlOpening, HtmlClosing, Marker, element_text, faults_of, gap_cutter, gap_faults_at, gap_spelling, has_line_break}
use Rattle.ecma_grammar.specs.declared.gap_mode.GapMode.{GapMode}
use Rattle.ecma_gap.specs.declared.blank_gap.BlankGap.{BlankGap}

-- what such a gap may consist of: white space, and where comments are not collected, line and block comments, too; one that
-- nothing ends reaches to the end, where nothing is told
abbrev pub blank_text : Bool → Text → Text
blank_text true text = take_while is_white_space text
blank_text false text = spelled common_cutter (pieces common_cutter tt text)

-- the gap between two cursors holds neither a comment nor a fault
pub record IsBlankGap (mode : GapMode) (now behind : Cursor) (flag : Bool) : Type 0 where
  pub line_break : has_line_break mode (rest now) ≡ flag
  pub comments : comments_at (place now) mode (rest now) ≡ []
  pub faults : gap_faults_at (place now) mode (rest now) ≡ []
  pub moved : behind ≡ passed (length (gap_spelling mode (rest now))) now

-- what is told of one: so it is in each mode that passes white space, and collects comments as said, and this character
-- stands behind it
abbrev pub IsTold : Bool → Bool → Cursor → Cursor → BlankGap → Type 0
IsTold first collect now behind gap =
    (slice_get (rest behind) 0 ≡ Some gap.next)
    × ((mode : GapMode) → mode.first ≡ first → mode.template ≡ false → mode.keeps_space ≡ false → mode.collect ≡ collect
    → IsBlankGap mode now behind gap.line_break)

-- the elements from one cursor on, before which the flag stands or not, end at another, and none has a fault
pub record ArePassed (mode : GapMode) (flag : Bool) (now behind : Cursor) (told : Bool) : Type 0 where
  pub line_break : (flag || list_any is_line_terminator (spelled (gap_cutter mode) (pieces (gap_cutter mode) flag (rest now)))) ≡ told
  pub faults : faults_of None (place now) (pieces (gap_cutter mode) flag (rest now)) ≡ []
  pub moved : behind ≡ passed (length (spelled (gap_cutter mode) (pieces (gap_cutter mode) flag (rest now)))) now

-- a comment that has its end
abbrev pub is_comment : Element → Bool
is_comment (Blank c) = false
is_comment (LineComment line) = true
is_comment (BlockComment body) = true
is_comment (OpenComment body) = false
is_comment (HtmlOpening line) = false
is_comment (HtmlClosing line) = false
is_comment (Marker c line) = false

-- such a comment stands at one cursor, and the other behind it
pub record PassesComment (now behind : Cursor) (terminator : Bool) : Type 0 where
  pub comment : Element
  pub stands : common_element (rest now) ≡ Some comment
  pub ends : is_comment comment ≡ true
  pub holds : terminator ≡ list_any is_line_terminator (element_text comment)
  pub moved : behind ≡ passed (length (element_text comment)) now

-- a comment that nothing ends stands at one cursor, and the other behind it, at the end
pub record PassesOpenComment (now behind : Cursor) : Type 0 where
  pub body : Text
  pub stands : common_element (rest now) ≡ Some (OpenComment body)
  pub moved : behind ≡ passed (length (element_text (OpenComment body))) now
  pub at_end : rest behind ≡ []

-- no comment that has its end is passed: neither white space nor a comment stands there, or nothing ends the comment
abbrev pub PassesNone : Cursor → Cursor → Type 0
PassesNone now behind = ((behind ≡ now) × (common_element (rest now) ≡ None)) ⊎ PassesOpenComment now behind

-- an element other than white space may begin the text: a comment, or `<!--` or a marker of `<` by their first two
-- characters, and where the flag stands what one of three characters begins
abbrev pub may_begin : Bool → Text → Bool
may_begin flag text =
    ((begins_with (codes "//") text || begins_with (codes "/*") text) || (begins_with (codes "<!") text || begins_with (codes "<<") text))
    || (flag && ((next_is 45 text || next_is 61 text) || next_is 62 text))

-- what is told where this text stands behind the white space, if no element may begin it and its first character is ASCII
abbrev pub told_of : Bool → Text → Option BlankGap
told_of flag text =
    if may_begin flag text then None else option_map (λ c. record { line_break = flag; next = c }) (ascii_of (slice_get text 0))
