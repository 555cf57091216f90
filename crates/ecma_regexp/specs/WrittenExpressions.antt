-- What is written of a letter or a piece of a regular expression, if there is one, and where lines and pieces end.
use Rattle.std.specs.Prelude.{[], length, Option, Some, None, Result, Ok, Err}
use Rattle.ecma_place.specs.Text.{Text}
use Rattle.ecma_place.specs.Atom.{AtomView}
use Rattle.ecma_place.specs.Cursor.{Cursor, rest, passed}
use Rattle.ecma_token.specs.View.{TokenView, ErrorView, plain_token}
use Rattle.ecma_token.specs.declared.token.Token.{Regex}
use Rattle.ecma_grammar.specs.Fronts.{line}
use Rattle.ecma_grammar.specs.Pieces.{Cutter, pieces, spelled}
use Rattle.ecma_grammar.specs.Expressions.{Letter, letter_text, BodyPiece, body_piece_text}

abbrev pub letter_if : Option Letter → Text
letter_if None = []
letter_if (Some letter) = letter_text letter

abbrev pub body_if : Option BodyPiece → Text
body_if None = []
body_if (Some piece) = body_piece_text piece

-- the cursor behind the pieces from it on
abbrev pub behind_all : {A : Type 0} → Cutter (Unit {0}) A → Cursor → Cursor
behind_all cutter c = passed (length (spelled cutter (pieces cutter tt (rest c)))) c

-- the cursor at the end of the line in which it stands
abbrev pub at_line_end : Cursor → Cursor
at_line_end c = passed (length (line (rest c))) c

-- an expression with this body and these flags, which may be refused
abbrev pub regex_of : AtomView → Result AtomView ErrorView → Result TokenView ErrorView
regex_of body (Ok flags) = Ok (plain_token (Regex body flags))
regex_of body (Err error) = Err error
