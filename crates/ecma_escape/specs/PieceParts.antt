-- What the pieces of a string or a word from a cursor on stand for, what is said of them, and where they end.
use Rattle.std.specs.Prelude.{ℕ, Bool, true, false, List, [], ◌∷◌, ◌++◌, length, Result, Ok, Err, encode_utf8_all}
use Rattle.ecma_place.specs.Atom.{AtomView}
use Rattle.ecma_place.specs.Cursor.{Cursor, rest, place, passed}
use Rattle.ecma_place.specs.declared.run.Quote.{Quote}
use Rattle.ecma_place.specs.Run.{quote_byte}
use Rattle.ecma_token.specs.View.{ErrorView, plain_kind}
use Rattle.ecma_token.specs.declared.error.SyntaxError.{UnterminatedStrLit}
use Rattle.ecma_grammar.specs.declared.found.Blame.TheVariants.{Always}
use Rattle.ecma_grammar.specs.Found.{Fault, error_behind, span_of}
use Rattle.ecma_grammar.specs.Pieces.{Cutter, pieces, spelled}
use Rattle.ecma_grammar.specs.Strings.{Piece, value_of, faults_of, atom_of, string_cutter, Ending, Closed, Unclosed, BadEscape, ending}

abbrev pub values_from : {S : Type 0} → Cutter S Piece → S → Cursor → List ℕ
values_from cutter s c = encode_utf8_all (value_of (pieces cutter s (rest c)))

abbrev pub faults_from : {S : Type 0} → Cutter S Piece → S → Cursor → List Fault
faults_from cutter s c = faults_of (place c) (pieces cutter s (rest c))

abbrev pub end_from : {S : Type 0} → Cutter S Piece → S → Cursor → Cursor
end_from cutter s c = passed (length (spelled cutter (pieces cutter s (rest c)))) c

-- Strings

abbrev pub quoted : Quote → Cutter (Unit {0}) Piece
quoted quote = string_cutter (quote_byte quote)

-- a value that stands where no escape is refused, at the end of the pieces
abbrev pub unless_refused : {A : Type 0} → Ending → Cursor → A → Result A ErrorView
unless_refused Closed end value = Ok value
unless_refused Unclosed end value = Ok value
unless_refused (BadEscape spelling error) end value = Err (error_behind (place end) error)

-- the cursor behind the refused escape at the end of the pieces, if there is one
abbrev pub behind_refused : Ending → Cursor → Cursor
behind_refused Closed end = end
behind_refused Unclosed end = end
behind_refused (BadEscape spelling error) end = passed (length spelling) end

-- how the pieces of a string from the cursor on end
abbrev pub ending_from : Quote → Cursor → Ending
ending_from quote c = ending (quote_byte quote) (rest (end_from (quoted quote) tt c))

-- the text behind these bytes of the pieces from the cursor on
abbrev pub text_from : Quote → List ℕ → Cursor → Result (List ℕ) ErrorView
text_from quote before c = unless_refused (ending_from quote c) (end_from (quoted quote) tt c) (before ++ values_from (quoted quote) tt c)

-- their value
abbrev pub atom_from : Quote → Cursor → Result AtomView ErrorView
atom_from quote c = unless_refused (ending_from quote c) (end_from (quoted quote) tt c) (atom_of (pieces (quoted quote) tt (rest c)))

-- where reading goes on behind them
abbrev pub behind_pieces : Quote → Cursor → Cursor
behind_pieces quote c = behind_refused (ending_from quote c) (end_from (quoted quote) tt c)

-- a string from the place `start` to the place `end` that is not closed
abbrev pub closing_faults : Bool → ℕ → ℕ → List Fault
closing_faults true start end = []
closing_faults false start end = record { blame = Always; error = record { kind = plain_kind UnterminatedStrLit; span = span_of start end } } ∷ []
