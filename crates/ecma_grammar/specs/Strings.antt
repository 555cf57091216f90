-- Strings (ECMA-262 StringLiteral, 12.9.4): a quote, pieces, and the same quote.
use Rattle.std.specs.Prelude.{◌≡◌, ℕ, ◌+◌, Bool, true, false, ◌||◌, ◌==◌, List, [], ◌∷◌, ◌++◌, map, Option, Some, None, Result, Ok, Err, encode_utf8_all, if◌then◌else◌}
use Rattle.std.specs.List.{list_any}
use Rattle.ecma_place.specs.Text.{Text, byte_len}
use Rattle.ecma_place.specs.Atom.{AtomView, borrowed_atom, owned_atom}
use Rattle.ecma_place.specs.Character.{is_line_break}
use Rattle.ecma_token.specs.View.{TokenView, ErrorView, plain_kind, plain_token}
use Rattle.ecma_token.specs.declared.error.SyntaxError.{UnterminatedStrLit}
use Rattle.ecma_token.specs.declared.token.Token.{Str}
use Rattle.ecma_grammar.specs.declared.found.Blame.TheVariants.{Always}
use Rattle.ecma_grammar.specs.declared.gap_mode.GapMode.{GapMode}
use Rattle.ecma_grammar.specs.Found.{Fault, Scanned, error_over, error_behind, fault_behind}
use Rattle.ecma_grammar.specs.Fronts.{begins_with}
use Rattle.ecma_grammar.specs.Gaps.{element}
use Rattle.ecma_grammar.specs.Locality.{IsLocal, is_clean}
use Rattle.ecma_grammar.specs.Pieces.{Cutter, pieces, spelled, remainder, Tiled}
use Rattle.ecma_grammar.specs.Escapes.{Escape, Accepted, Refused, InString, escape}

-- a character that stands for itself, or an escape: what is written, the value, and what is said of it
pub data Piece : Type 0 where
  Plain : ℕ → Piece
  Escaped : Text → Text → List Fault → Piece

abbrev pub piece_text : Piece → Text
piece_text (Plain c) = c ∷ []
piece_text (Escaped spelling value faults) = spelling

abbrev pub piece_value : Piece → Text
piece_value (Plain c) = c ∷ []
piece_value (Escaped spelling value faults) = value

abbrev pub piece_faults : Piece → List Fault
piece_faults (Plain c) = []
piece_faults (Escaped spelling value faults) = faults

abbrev pub is_escaped : Piece → Bool
is_escaped (Plain c) = false
is_escaped (Escaped spelling value faults) = true

-- the values in a row
abbrev pub value_of : List Piece → Text
value_of [] = []
value_of (piece ∷ more) = piece_value piece ++ value_of more

-- what is said of pieces that stand behind n bytes, in order
abbrev pub faults_of : ℕ → List Piece → List Fault
faults_of n [] = []
faults_of n (piece ∷ more) = map (fault_behind n) (piece_faults piece) ++ faults_of (n + byte_len (piece_text piece)) more

-- an owned text comes only where an escape stands
abbrev pub atom_of : List Piece → AtomView
atom_of ps = if list_any is_escaped ps then owned_atom (encode_utf8_all (value_of ps)) else borrowed_atom (encode_utf8_all (value_of ps))

-- an escape is a piece where it is accepted
abbrev pub escaped_piece : Escape → Option Piece
escaped_piece (Accepted spelling value faults) = Some (Escaped spelling value faults)
escaped_piece (Refused spelling error) = None

-- what a character does in a string
pub data Role : Type 0 where
  Quote : Role
  Backslash : Role
  Break : Role
  Itself : Role

-- CR and LF end a string; U+2028 and U+2029 do not
abbrev pub role : ℕ → ℕ → Role
role quote c = if c == quote then Quote else (if c == 92 then Backslash else (if is_line_break c then Break else Itself))

abbrev pub piece_of : Role → Text → Option Piece
piece_of Itself (c ∷ cs) = Some (Plain c)
piece_of Backslash text = escaped_piece (escape InString text)
piece_of role text = None

abbrev pub string_piece : ℕ → Text → Option Piece
string_piece quote [] = None
string_piece quote (c ∷ cs) = piece_of (role quote c) (c ∷ cs)

-- the pieces of a string in these quotes
abbrev pub string_cutter : ℕ → Cutter (Unit {0}) Piece
string_cutter quote = record { read = λ _ text. string_piece quote text; spelling = piece_text; next = λ s _. s }

abbrev pub opens_string : Text → Bool
opens_string [] = false
opens_string (c ∷ cs) = c == 34 || c == 39

-- how a string ends
pub data Ending : Type 0 where
  Closed : Ending
  Unclosed : Ending
  BadEscape : Text → ErrorView → Ending

abbrev pub bad_escape_ending : Escape → Ending
bad_escape_ending (Accepted spelling value faults) = Unclosed
bad_escape_ending (Refused spelling error) = BadEscape spelling error

abbrev pub ending_of : Role → Text → Ending
ending_of Quote text = Closed
ending_of Backslash text = bad_escape_ending (escape InString text)
ending_of role text = Unclosed

abbrev pub ending : ℕ → Text → Ending
ending quote [] = Unclosed
ending quote (c ∷ cs) = ending_of (role quote c) (c ∷ cs)

abbrev pub string_token : List Piece → Text → TokenView
string_token ps spelling = plain_token (Str (atom_of ps) (borrowed_atom (encode_utf8_all spelling)))

abbrev pub scanned_string : Result TokenView ErrorView → List Fault → Text → Scanned TokenView
scanned_string value faults spelling = record { value = value; faults = faults; spelling = spelling; line_break = false }

-- a string by its opening quote with its pieces, and its ending: one that is not closed is a string all the same, and
-- a refused escape refuses all up to where reading goes on
abbrev pub found_string : ℕ → Text → List Piece → Ending → Scanned TokenView
found_string quote opened ps Closed = scanned_string (Ok (string_token ps (opened ++ quote ∷ []))) (faults_of 1 ps) (opened ++ quote ∷ [])
found_string quote opened ps Unclosed =
    scanned_string
    (Ok (string_token ps opened))
    (faults_of 1 ps ++ record { blame = Always; error = error_over (plain_kind UnterminatedStrLit) (byte_len opened) } ∷ [])
    opened
found_string quote opened ps (BadEscape spelling error) =
    scanned_string (Err (error_behind (byte_len opened) error)) (faults_of 1 ps) (opened ++ spelling)

abbrev pub string_pieces : ℕ → Text → List Piece
string_pieces quote text = pieces (string_cutter quote) tt text

-- the string with which a text begins
abbrev pub string_literal : Text → Scanned TokenView
string_literal [] = found_string 0 [] [] Unclosed
string_literal (quote ∷ text) =
    found_string quote (quote ∷ spelled (string_cutter quote) (string_pieces quote text)) (string_pieces quote text) (ending quote (remainder (string_cutter quote) tt text))

-- Laws

-- The pieces of a string and what follows them are the text behind its quote, and no piece begins what follows.
abbrev pub StringTiles : Type 0
StringTiles = (quote : ℕ) (text : Text) → Tiled (string_cutter quote) tt text

-- A string that is read cleanly is a quote, its pieces in a row, and the same quote.
abbrev pub StringIsPieces : Type 0
StringIsPieces =
    (quote : ℕ) (text : Text) → is_clean (string_literal (quote ∷ text)) ≡ true
    → (string_literal (quote ∷ text)).spelling ≡ quote ∷ (spelled (string_cutter quote) (string_pieces quote text) ++ quote ∷ [])

-- What is read as a string is a front of the text.
abbrev pub StringIsFront : Type 0
StringIsFront = (text : Text) → begins_with (string_literal text).spelling text ≡ true

-- A string that is read cleanly is read the same in front of any text.
abbrev pub StringIsLocal : Type 0
StringIsLocal = IsLocal opens_string string_literal (λ text. true)

-- No string begins an element of a gap.
abbrev pub StringBeginsNoGap : Type 0
StringBeginsNoGap = (mode : GapMode) (flag : Bool) (text : Text) → opens_string text ≡ true → element mode flag text ≡ None
