-- Regular expressions (ECMA-262 RegularExpressionLiteral, 12.9.5): a slash, pieces, a slash, and flags. That flags are
-- checked no further, and how far an expression reaches that nothing closes, is our own choice.
use Rattle.std.specs.Prelude.{◌≡◌, ℕ, Bool, true, false, not, ◌||◌, ◌==◌, List, [], ◌∷◌, ◌++◌, map, length, drop, Option, Some, None, Result, Ok, Err, encode_utf8_all, if◌then◌else◌}
use Rattle.std.specs.List.{list_all, list_any}
use Rattle.ecma_place.specs.Text.{Text, byte_len}
use Rattle.ecma_place.specs.Atom.{AtomView, borrowed_atom}
use Rattle.ecma_place.specs.Character.{is_ident_start, is_line_terminator}
use Rattle.ecma_token.specs.View.{TokenView, ErrorView, plain_kind, plain_token}
use Rattle.ecma_token.specs.declared.error.SyntaxError.{UnterminatedRegExp}
use Rattle.ecma_token.specs.declared.token.Token.{Regex}
use Rattle.ecma_grammar.specs.declared.gap_mode.GapMode.{GapMode}
use Rattle.ecma_grammar.specs.Found.{Scanned, scanned, error_over, error_behind, fault_behind}
use Rattle.ecma_grammar.specs.Fronts.{next_passes, next_is, begins_with, line}
use Rattle.ecma_grammar.specs.Gaps.{element}
use Rattle.ecma_grammar.specs.Locality.{IsLocal, is_clean, separates}
use Rattle.ecma_grammar.specs.Pieces.{Cutter, pieces, spelled, remainder, Tiled}
use Rattle.ecma_grammar.specs.Punctuators.{punctuator}
use Rattle.ecma_grammar.specs.Words.{identifier_name}

-- Letters

-- a character of an expression: alone, or behind a backslash
pub data Letter : Type 0 where
  Bare : ℕ → Letter
  Quoted : ℕ → Letter

abbrev pub letter_text : Letter → Text
letter_text (Bare c) = c ∷ []
letter_text (Quoted c) = 92 ∷ (c ∷ [])

-- behind a backslash stands any character but a line terminator
abbrev pub quoted : Text → Option Letter
quoted [] = None
quoted (c ∷ cs) = if is_line_terminator c then None else Some (Quoted c)

-- Classes

-- what a character does in a class
pub data ClassRole : Type 0 where
  ClassStop : ClassRole
  ClassBackslash : ClassRole
  ClassItself : ClassRole

abbrev pub class_role : ℕ → ClassRole
class_role c =
    if c == 93 then ClassStop
    else (if c == 92 then ClassBackslash
    else (if is_line_terminator c then ClassStop
    else ClassItself))

abbrev pub class_letter_of : ClassRole → ℕ → Text → Option Letter
class_letter_of ClassStop c cs = None
class_letter_of ClassBackslash c cs = quoted cs
class_letter_of ClassItself c cs = Some (Bare c)

-- the letter of a class with which a text begins
abbrev pub class_letter : Text → Option Letter
class_letter [] = None
class_letter (c ∷ cs) = class_letter_of (class_role c) c cs

abbrev pub class_cutter : Cutter (Unit {0}) Letter
class_cutter = record { read = λ _ text. class_letter text; spelling = letter_text; next = λ s _. s }

-- Pieces

-- a piece of the body: a letter, or a class of letters in brackets
pub data BodyPiece : Type 0 where
  Single : Letter → BodyPiece
  Class : List Letter → BodyPiece

abbrev pub body_piece_text : BodyPiece → Text
body_piece_text (Single letter) = letter_text letter
body_piece_text (Class letters) = 91 ∷ (spelled class_cutter letters ++ (93 ∷ []))

abbrev pub single : Option Letter → Option BodyPiece
single None = None
single (Some letter) = Some (Single letter)

-- the class behind a bracket, where another closes it
abbrev pub class_behind : Text → Option BodyPiece
class_behind cs = if next_is 93 (remainder class_cutter tt cs) then Some (Class (pieces class_cutter tt cs)) else None

-- what a character does in the body
pub data BodyRole : Type 0 where
  BodyStop : BodyRole
  BodyBackslash : BodyRole
  Bracket : BodyRole
  BodyItself : BodyRole

abbrev pub body_role : ℕ → BodyRole
body_role c =
    if c == 47 then BodyStop
    else (if c == 92 then BodyBackslash
    else (if c == 91 then Bracket
    else (if is_line_terminator c then BodyStop
    else BodyItself)))

abbrev pub body_piece_of : BodyRole → ℕ → Text → Option BodyPiece
body_piece_of BodyStop c cs = None
body_piece_of BodyBackslash c cs = single (quoted cs)
body_piece_of Bracket c cs = class_behind cs
body_piece_of BodyItself c cs = Some (Single (Bare c))

-- the piece of a body with which a text begins
abbrev pub body_piece : Text → Option BodyPiece
body_piece [] = None
body_piece (c ∷ cs) = body_piece_of (body_role c) c cs

abbrev pub body_cutter : Cutter (Unit {0}) BodyPiece
body_cutter = record { read = λ _ text. body_piece text; spelling = body_piece_text; next = λ s _. s }

abbrev pub body_pieces : Text → List BodyPiece
body_pieces text = pieces body_cutter tt text

-- what follows a letter or a piece, if there is one

abbrev pub past_letter : Option Letter → Text → Text
past_letter None text = text
past_letter (Some letter) text = drop (length (letter_text letter)) text

abbrev pub past_piece : Option BodyPiece → Text → Text
past_piece None text = text
past_piece (Some piece) text = drop (length (body_piece_text piece)) text

-- Flags

abbrev pub no_flags : Scanned AtomView
no_flags = scanned (borrowed_atom []) []

-- the unescaped text of a word, where the text itself begins with a start character
abbrev pub flags : Text → Scanned AtomView
flags text = if next_passes is_ident_start text then identifier_name text else no_flags

-- Expressions

-- a body between its slashes
abbrev pub slashed : Text → Text
slashed body = 47 ∷ (body ++ (47 ∷ []))

abbrev pub regex_value : Text → Result AtomView ErrorView → Result TokenView ErrorView
regex_value body (Ok text) = Ok (plain_token (Regex (borrowed_atom (encode_utf8_all body)) text))
regex_value body (Err error) = Err (error_behind (byte_len (slashed body)) error)

-- an expression with this body and the flags behind it
abbrev pub closed_expression : Text → Scanned AtomView → Scanned TokenView
closed_expression body found =
    record {
      value = regex_value body found.value;
      faults = map (fault_behind (byte_len (slashed body))) found.faults;
      spelling = slashed body ++ found.spelling;
      line_break = false;
    }

-- one that nothing closes is refused up to the line terminator or the end
abbrev pub open_expression : Text → Scanned TokenView
open_expression text =
    record {
      value = Err (error_over (plain_kind UnterminatedRegExp) (byte_len (47 ∷ line text)));
      faults = [];
      spelling = 47 ∷ line text;
      line_break = false;
    }

-- the expression behind its first slash
abbrev pub expression_behind : Text → Scanned TokenView
expression_behind text =
    if next_is 47 (remainder body_cutter tt text)
    then closed_expression (spelled body_cutter (body_pieces text)) (flags (drop 1 (remainder body_cutter tt text)))
    else open_expression text

abbrev pub opens_expression : Text → Bool
opens_expression text = next_is 47 text

-- the regular expression with which a text begins
abbrev pub regular_expression : Text → Scanned TokenView
regular_expression text = expression_behind (drop 1 text)

-- Letters and pieces, each by itself

-- behind a backslash any character but a line terminator; alone no bracket that closes and no backslash either
abbrev pub is_class_letter : Letter → Bool
is_class_letter (Bare c) = not ((c == 93 || c == 92) || is_line_terminator c)
is_class_letter (Quoted c) = not (is_line_terminator c)

-- outside classes no slash, no bracket that opens and no backslash stands alone
abbrev pub is_body_piece : BodyPiece → Bool
is_body_piece (Single (Bare c)) = not (((c == 47 || c == 92) || c == 91) || is_line_terminator c)
is_body_piece (Single (Quoted c)) = not (is_line_terminator c)
is_body_piece (Class letters) = list_all is_class_letter letters

-- Laws

-- A slash, pieces and a slash are read as these pieces, with the flags behind them.
abbrev pub ExpressionIsRead : Type 0
ExpressionIsRead =
    (ps : List BodyPiece) (text : Text) → list_all is_body_piece ps ≡ true
    → regular_expression (slashed (spelled body_cutter ps) ++ text) ≡ closed_expression (spelled body_cutter ps) (flags text)

-- What is read of a body is such pieces, without line terminators.
abbrev pub ExpressionIsPieces : Type 0
ExpressionIsPieces = (text : Text) → (list_all is_body_piece (body_pieces text) ≡ true) × (list_any is_line_terminator (spelled body_cutter (body_pieces text)) ≡ false)

-- The pieces of a body and what follows them are the text, and no piece begins what follows.
abbrev pub BodyTiles : Type 0
BodyTiles = (text : Text) → Tiled body_cutter tt text

-- What is read as a regular expression is a front of the text.
abbrev pub ExpressionIsFront : Type 0
ExpressionIsFront = (text : Text) → opens_expression text ≡ true → begins_with (regular_expression text).spelling text ≡ true

-- A regular expression that is read cleanly is read the same at the end of the text and in front of a space or a line
-- feed.
abbrev pub ExpressionIsLocal : Type 0
ExpressionIsLocal = IsLocal opens_expression regular_expression separates

-- And the slash of such an expression is read the same by itself, as `/` or `/=`.
abbrev pub FirstSlashIsLocal : Type 0
FirstSlashIsLocal =
    (type_mode : Bool) (b behind r : Text) → opens_expression (b ++ behind) ≡ true → is_clean (regular_expression (b ++ behind)) ≡ true
    → (regular_expression (b ++ behind)).spelling ≡ b → punctuator type_mode (b ++ r) ≡ punctuator type_mode (b ++ behind)

-- What begins no element of a gap, and is read cleanly as a regular expression, begins none in front of any text.
abbrev pub ExpressionBeginsNoGap : Type 0
ExpressionBeginsNoGap =
    (mode : GapMode) (flag : Bool) (b behind r : Text) → opens_expression (b ++ behind) ≡ true → is_clean (regular_expression (b ++ behind)) ≡ true
    → (regular_expression (b ++ behind)).spelling ≡ b → element mode flag (b ++ behind) ≡ None → element mode flag (b ++ r) ≡ None
