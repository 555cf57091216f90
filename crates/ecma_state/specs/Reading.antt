-- One read: the gap, and then the end or the token at its place.
use Rattle.std.specs.Prelude.{◌≡◌, ℕ, Bool, true, false, ◌||◌, ◌&&◌, List, [], ◌∷◌, ◌++◌, Option, Some, None, drop, length}
use Rattle.ecma_place.specs.Text.{Text}
use Rattle.ecma_place.specs.Cursor.{Cursor, rest, place, passed}
use Rattle.ecma_place.specs.declared.comment.Comment.{Comment}
use Rattle.ecma_token.specs.View.{TokenView, SpannedView, plain_token}
use Rattle.ecma_grammar.specs.Found.{Fault, FoundView, Scanned, found_at, scanned, token_behind}
use Rattle.ecma_grammar.specs.Expressions.{regular_expression}
use Rattle.ecma_grammar.specs.Fronts.{line}
use Rattle.ecma_grammar.specs.Comments.{comments_at}
use Rattle.ecma_grammar.specs.Gaps.{gap_spelling, has_line_break, gap_faults_at}
use Rattle.ecma_grammar.specs.GapViews.{GapView}
use Rattle.ecma_grammar.specs.Shebangs.{opens_shebang, shebang_of, shebang_spelling}
use Rattle.ecma_state.specs.Mode.{gap_mode}
use Rattle.ecma_state.specs.TokenAt.{token_at, token_comments, token_found, token_of, is_borrowed, is_empty, is_free_at}
use Rattle.ecma_state.specs.declared.mode.Mode.{Mode}

-- What a read finds: a token, or the end with the flag before it, what is wrong, in order, the comments of the gap and of
-- the token, each with whether it is for the next token, and where it comes to
pub record Reading : Type 0 where
  pub found : Option SpannedView
  pub end_flag : Bool
  pub faults : List Fault
  pub comments : List (Comment × Bool)
  pub input : Cursor

-- a token that was found, with the flag of the gap before it
abbrev pub spanned : Bool → FoundView TokenView → SpannedView
spanned flag f = record { token = token_of f.value; had_line_break = flag || f.line_break; span = f.extent }

-- the faults and comments of the gap stand before those of the token
abbrev pub token_reading : GapView → FoundView TokenView → List (Comment × Bool) → Cursor → Reading
token_reading gap f comments behind =
    record {
      found = Some (spanned gap.line_break f);
      end_flag = gap.line_break;
      faults = gap.faults ++ f.faults;
      comments = gap.comments ++ comments;
      input = behind;
    }

abbrev pub reading_token : Mode → GapView → Cursor → Text → Reading
reading_token mode gap here text =
    token_reading
    gap
    (token_found mode gap.line_break (place here) text)
    (token_comments mode gap.line_break (place here) text)
    (passed (length (token_at mode gap.line_break text).spelling) here)

-- behind the gap, where this text is left
abbrev pub reading_behind : Mode → GapView → Cursor → Text → Reading
reading_behind mode gap here [] =
    record { found = None; end_flag = gap.line_break; faults = gap.faults; comments = gap.comments; input = here }
reading_behind mode gap here (c ∷ cs) = reading_token mode gap here (c ∷ cs)

-- what the gap tells with which a text at the place n begins
abbrev pub gap_in : Mode → ℕ → Text → GapView
gap_in mode n text =
    record {
      line_break = has_line_break (gap_mode mode) text;
      faults = gap_faults_at n (gap_mode mode) text;
      comments = comments_at n (gap_mode mode) text;
    }

-- the place behind the gap
abbrev pub behind_gap : Mode → Cursor → Cursor
behind_gap mode input = passed (length (gap_spelling (gap_mode mode) (rest input))) input

-- A shebang stands where no token was given (12.5). Its flag is false, which is our own choice.

abbrev pub no_gap : GapView
no_gap = record { line_break = false; faults = []; comments = [] }

abbrev pub stands_shebang : Mode → Text → Bool
stands_shebang mode text = mode.shebang_allowed && opens_shebang text

abbrev pub shebang_token : Text → Scanned TokenView
shebang_token text =
    scanned (plain_token (shebang_of (line (drop 2 text)))) (shebang_spelling (line (drop 2 text)))

abbrev pub shebang_reading : Cursor → Reading
shebang_reading here =
    token_reading
    no_gap
    (found_at token_behind (place here) (shebang_token (rest here)))
    []
    (passed (length (shebang_token (rest here)).spelling) here)

-- what is read again from the slash at which a cursor stands, with the slash's flag: a regular expression, or why there
-- is none (ECMA-262 InputElementRegExp, 12)

abbrev gap_with : Bool → GapView
gap_with flag = record { line_break = flag; faults = []; comments = [] }

abbrev pub reading_again : Bool → Cursor → Reading
reading_again flag here =
    token_reading
    (gap_with flag)
    (found_at token_behind (place here) (regular_expression (rest here)))
    []
    (passed (length (regular_expression (rest here)).spelling) here)

-- what a read finds where no shebang stands
unfoldable pub reading_code : Mode → Cursor → Reading
reading_code mode input =
    reading_behind mode (gap_in mode (place input) (rest input)) (behind_gap mode input) (rest (behind_gap mode input))

abbrev pub reading_if : Bool → Mode → Cursor → Reading
reading_if true mode input = shebang_reading input
reading_if false mode input = reading_code mode input

-- what a read finds from a cursor on
abbrev pub reading : Mode → Cursor → Reading
reading mode input = reading_if (stands_shebang mode (rest input)) mode input

-- a read does not allocate where nothing is wrong in the gap, no comment is collected, and the token allocates nothing
abbrev pub is_free_behind : Mode → Bool → Text → Bool
is_free_behind mode flag [] = true
is_free_behind mode flag (c ∷ cs) = is_free_at mode flag (c ∷ cs)

abbrev pub is_free_code : Mode → Cursor → Bool
is_free_code mode input =
    is_empty (gap_in mode (place input) (rest input)).faults
    && (is_empty (gap_in mode (place input) (rest input)).comments
    && is_free_behind mode (has_line_break (gap_mode mode) (rest input)) (rest (behind_gap mode input)))

-- a shebang allocates nothing
abbrev pub is_free : Mode → Cursor → Bool
is_free mode input = stands_shebang mode (rest input) || is_free_code mode input

-- so does one that reads again where nothing is wrong and no flag is escaped
abbrev pub is_free_again : Text → Bool
is_free_again text =
    is_borrowed (regular_expression text).value && is_empty (regular_expression text).faults

-- Laws

-- the same is found, and what is left and its place are the same
pub record IsSameReading (a b : Reading) : Type 0 where
  pub found : a.found ≡ b.found
  pub end_flag : a.end_flag ≡ b.end_flag
  pub faults : a.faults ≡ b.faults
  pub comments : a.comments ≡ b.comments
  pub left : rest a.input ≡ rest b.input
  pub stands : place a.input ≡ place b.input

-- What a read finds depends on the mode, on what is left, and on the place of that alone.
abbrev pub ReadingIsDetermined : Type 0
ReadingIsDetermined =
    (mode : Mode) (a b : Cursor) → rest a ≡ rest b → place a ≡ place b → IsSameReading (reading mode a) (reading mode b)
