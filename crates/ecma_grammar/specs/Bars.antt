-- A marker of bars: seven bars and a space, the line, and white space, line and block comments behind it. It is a
-- token, and our own choice.
use Rattle.std.specs.Prelude.{◌≡◌, ℕ, Bool, true, false, List, [], ◌∷◌, ◌++◌, codes, length, drop, Option, Some, None, Err, if◌then◌else◌}
use Rattle.ecma_place.specs.Text.{Text}
use Rattle.ecma_place.specs.declared.comment.Comment.{Comment}
use Rattle.ecma_token.specs.View.{TokenView, ErrorView, plain_kind}
use Rattle.ecma_token.specs.declared.error.SyntaxError.{TS1185}
use Rattle.ecma_grammar.specs.declared.gap_mode.GapMode.{GapMode}
use Rattle.ecma_grammar.specs.Comments.{comments_of, collected}
use Rattle.ecma_grammar.specs.Found.{Fault, Scanned, error_over}
use Rattle.ecma_grammar.specs.Fronts.{line, behind_line, begins_with}
use Rattle.ecma_grammar.specs.Gaps.{Element, Marker, element_text, common_or, faults_of}
use Rattle.ecma_grammar.specs.Pieces.{Cutter, pieces, spelled}

-- the element that stands behind a marker of bars: white space, a line comment or a block comment
abbrev pub common_element : Text → Option Element
common_element [] = None
common_element (c ∷ cs) = common_or c cs None

abbrev pub common_cutter : Cutter (Unit {0}) Element
common_cutter = record { read = λ _ text. common_element text; spelling = element_text; next = λ s _. s }

abbrev pub opens_bars : Text → Bool
opens_bars text = begins_with (codes "||||||| ") text

-- what stands behind the bars, and what follows their line
abbrev pub behind_signs : Text → Text
behind_signs text = drop 7 text

abbrev pub behind_bars_line : Text → Text
behind_bars_line text = behind_line (behind_signs text)

-- the marker, and as many elements behind it as there are
abbrev pub bars_elements : Text → List Element
bars_elements text = Marker 124 (line (behind_signs text)) ∷ pieces common_cutter tt (behind_bars_line text)

abbrev pub bars_spelling : Text → Text
bars_spelling text = spelled common_cutter (bars_elements text)

abbrev pub behind_bars : Text → Text
behind_bars text = drop (length (bars_spelling text)) text

-- the error lies over the bars, and is the first of the faults; both are counted from the first bar
abbrev pub bars_error : ErrorView
bars_error = error_over (plain_kind TS1185) 7

abbrev pub bars_faults_at : ℕ → Text → List Fault
bars_faults_at n text = faults_of None n (bars_elements text)

abbrev pub bars_faults : Text → List Fault
bars_faults text = bars_faults_at 0 text

-- the comments of the bars with which a text at the place n begins: the flag stands, so all are for the token of the
-- bars but block comments before a semicolon
abbrev pub bars_comments_at : ℕ → GapMode → Text → List (Comment × Bool)
bars_comments_at n mode text = collected mode.collect (comments_of None true n (bars_elements text) text)

-- the token of the bars, which is refused
abbrev pub bars_token : Text → Scanned TokenView
bars_token text = record { value = Err bars_error; faults = bars_faults text; spelling = bars_spelling text; line_break = false }

-- what is found of bars at a place: error and faults are counted from the first bar, and the flag stands
pub record Bars : Type 0 where
  pub spelling : Text
  pub error : ErrorView
  pub faults : List Fault
  pub comments : List (Comment × Bool)
  pub line_break : Bool

abbrev pub found_bars : ℕ → GapMode → Text → Bars
found_bars n mode text =
    record {
      spelling = bars_spelling text;
      error = bars_error;
      faults = bars_faults text;
      comments = bars_comments_at n mode text;
      line_break = true;
    }

-- the bars with which a text at the place n begins, where the flag stands
abbrev pub bars_at : ℕ → GapMode → Text → Option Bars
bars_at n mode text = if opens_bars text then Some (found_bars n mode text) else None

-- Laws

-- A marker of bars, the elements behind it and what follows them are the text, and no such element begins what follows.
abbrev pub BarsTile : Type 0
BarsTile =
    (text : Text) → opens_bars text ≡ true
    → (bars_spelling text ++ behind_bars text ≡ text) × (common_element (behind_bars text) ≡ None)
