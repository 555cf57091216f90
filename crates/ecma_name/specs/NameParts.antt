-- What the pieces of a word from a cursor on stand for, and where reading goes on behind them.
use Rattle.std.specs.Prelude.{ℕ, Bool, true, false, List, [], ◌∷◌, ◌++◌, Option, Some, None, Result, Ok, Err, if◌then◌else◌}
use Rattle.std.specs.Cow.{cow_str_bytes}
use Rattle.std.specs.declared.borrow.CowStr.{CowStr}
use Rattle.ecma_place.specs.Atom.{AtomView, is_borrowed_of}
use Rattle.ecma_place.specs.Cursor.{Cursor, rest}
use Rattle.ecma_place.specs.declared.place.Span.{Span}
use Rattle.ecma_syntax.specs.Reserved.{is_reserved}
use Rattle.ecma_syntax.specs.Word.{word_of}
use Rattle.ecma_syntax.specs.declared.context.Context.{Context}
use Rattle.ecma_syntax.specs.declared.word.Word.{Word}
use Rattle.ecma_token.specs.View.{ErrorView, plain_kind}
use Rattle.ecma_token.specs.declared.error.SyntaxError.{InvalidIdentChar, EscapeInReservedWord}
use Rattle.ecma_escape.specs.declared.escape.Meaning.{Meaning}
use Rattle.ecma_escape.specs.declared.escape.Meaning.TheVariants as answer
use Rattle.ecma_grammar.specs.declared.found.Blame.TheVariants.{Always}
use Rattle.ecma_grammar.specs.Found.{Fault, span_of}
use Rattle.ecma_grammar.specs.Pieces.{pieces}
use Rattle.ecma_grammar.specs.Strings as strings
use Rattle.ecma_grammar.specs.Strings.{Piece, piece_faults, atom_of, Ending, Closed}
use Rattle.ecma_grammar.specs.Words.{word_cutter, may_stand, owned_word, WordEnding, Ended, BadEscape, word_ending}
use Rattle.ecma_escape.specs.PieceParts.{values_from, end_from, unless_refused, behind_refused}

-- what is said of a piece, if there is one
abbrev pub faults_in : Option Piece → List Fault
faults_in None = []
faults_in (Some piece) = piece_faults piece

-- what is answered of an escape is a character that may be named here
abbrev pub is_named : Bool → Meaning → Bool
is_named is_first (answer.Character c) = may_stand is_first c
is_named is_first answer.Nothing = false
is_named is_first (answer.Octal c) = false
is_named is_first answer.Spelling = false
is_named is_first (answer.Refused refusal) = false

-- an escape from the place `start` to the place `end` that may be named or may not
abbrev pub named_faults : Bool → ℕ → ℕ → List Fault
named_faults true start end = []
named_faults false start end = record { blame = Always; error = record { kind = plain_kind InvalidIdentChar; span = span_of start end } } ∷ []

-- the end of a word, as that of a string that is closed or ends at a refused escape
abbrev pub as_ending : WordEnding → Ending
as_ending Ended = Closed
as_ending (BadEscape spelling error) = strings.BadEscape spelling error

-- how the pieces from the cursor on end; `is_first` says that none came before it
abbrev pub ending_from : Bool → Cursor → WordEnding
ending_from is_first c = word_ending (rest (end_from word_cutter is_first c))

-- the text behind these bytes of the pieces from the cursor on
abbrev pub text_from : Bool → List ℕ → Cursor → Result (List ℕ) ErrorView
text_from is_first before c = unless_refused (as_ending (ending_from is_first c)) (end_from word_cutter is_first c) (before ++ values_from word_cutter is_first c)

-- the text of the name at the cursor
abbrev pub name_from : Cursor → Result AtomView ErrorView
name_from c = unless_refused (as_ending (ending_from true c)) (end_from word_cutter true c) (atom_of (pieces word_cutter true (rest c)))

-- where reading goes on behind them
abbrev pub behind_pieces : Bool → Cursor → Cursor
behind_pieces is_first c = behind_refused (as_ending (ending_from is_first c)) (end_from word_cutter is_first c)

-- a text that is borrowed or owned, as an atom
abbrev pub cow_atom : {Z : Type 0} → CowStr Z → AtomView
cow_atom text = record { bytes = cow_str_bytes text; is_borrowed = is_borrowed_of text }

-- the word with this text that is written with an escape over this span
abbrev pub escaped_word_at : Context → Span → AtomView → Result Word ErrorView
escaped_word_at context span text =
    if is_reserved context (word_of text.bytes)
    then Err (record { kind = plain_kind (EscapeInReservedWord text); span = span })
    else Ok (owned_word (word_of text.bytes))

-- the word of a name over this span
abbrev pub word_at : Context → Span → Result AtomView ErrorView → Result Word ErrorView
word_at context span (Err error) = Err error
word_at context span (Ok text) = if text.is_borrowed then Ok (word_of text.bytes) else escaped_word_at context span text
