-- Words (ECMA-262 IdentifierName, 12.7): part characters and escapes of code points, as many as there are. Which faults
-- stay and which refuse the word is our own choice.
use Rattle.std.specs.Prelude.{◌≡◌, ℕ, Bool, true, false, ◌||◌, ◌==◌, List, [], ◌∷◌, ◌++◌, Option, Some, None, Result, Ok, Err, encode_utf8_all, if◌then◌else◌}
use Rattle.ecma_place.specs.Text.{Text, byte_len}
use Rattle.ecma_place.specs.Atom.{AtomView, owned_atom}
use Rattle.ecma_place.specs.Character.{is_ident_start, is_ident_part}
use Rattle.ecma_syntax.specs.Reserved.{is_reserved}
use Rattle.ecma_syntax.specs.Word.{word_of, word_text, word_kind}
use Rattle.ecma_syntax.specs.declared.context.Context.{Context}
use Rattle.ecma_syntax.specs.declared.word.IdentLike.TheVariants.{Known, Other}
use Rattle.ecma_syntax.specs.declared.word.Word.{Word}
use Rattle.ecma_syntax.specs.declared.word.Word.TheVariants.{Keyword, Null, True, False, Ident}
use Rattle.ecma_token.specs.View.{ErrorView, plain_kind}
use Rattle.ecma_token.specs.declared.error.SyntaxError.{EscapeInReservedWord, InvalidIdentChar}
use Rattle.ecma_grammar.specs.declared.found.Blame.TheVariants.{Always}
use Rattle.ecma_grammar.specs.declared.gap_mode.GapMode.{GapMode}
use Rattle.ecma_grammar.specs.Found.{Scanned, scanned, error_over, error_behind}
use Rattle.ecma_grammar.specs.Fronts.{front, after, next_is, begins_with}
use Rattle.ecma_grammar.specs.Gaps.{element}
use Rattle.ecma_grammar.specs.Locality.{IsLocal, separates}
use Rattle.ecma_grammar.specs.Pieces.{Cutter, pieces, spelled, remainder, Tiled}
use Rattle.ecma_grammar.specs.Escapes.{Escape, Accepted, Refused, InWord, escape}
use Rattle.ecma_grammar.specs.Strings.{Piece, Plain, Escaped, piece_text, value_of, faults_of, atom_of}

-- a start character or a backslash begins a word
abbrev pub opens_word : Text → Bool
opens_word [] = false
opens_word (c ∷ cs) = is_ident_start c || c == 92

-- what a character does in a word
pub data WordRole : Type 0 where
  Part : WordRole
  Backslash : WordRole
  Stop : WordRole

abbrev pub word_role : ℕ → WordRole
word_role c = if is_ident_part c then Part else (if c == 92 then Backslash else Stop)

-- the characters that may be named first, and later
abbrev pub may_stand : Bool → ℕ → Bool
may_stand true c = is_ident_start c
may_stand false c = is_ident_part c

-- A character that may not stand where its escape names it is a fault over the escape, and stays. A surrogate, of
-- which the whole spelling is kept, is a fault already.
abbrev pub named_piece : Bool → Escape → Option Piece
named_piece is_first (Refused spelling error) = None
named_piece is_first (Accepted spelling [] faults) = Some (Escaped spelling [] faults)
named_piece is_first (Accepted spelling (c ∷ []) faults) =
    Some (Escaped spelling (c ∷ []) (if may_stand is_first c then faults else record { blame = Always; error = error_over (plain_kind InvalidIdentChar) (byte_len spelling) } ∷ []))
named_piece is_first (Accepted spelling (c ∷ d ∷ cs) faults) = Some (Escaped spelling (c ∷ d ∷ cs) faults)

abbrev pub word_piece_of : Bool → WordRole → Text → Option Piece
word_piece_of is_first Part [] = None
word_piece_of is_first Part (c ∷ cs) = Some (Plain c)
word_piece_of is_first Backslash text = named_piece is_first (escape InWord text)
word_piece_of is_first Stop text = None

abbrev pub word_piece : Bool → Text → Option Piece
word_piece is_first [] = None
word_piece is_first (c ∷ cs) = word_piece_of is_first (word_role c) (c ∷ cs)

-- the pieces of a word; the state says that none came yet
abbrev pub word_cutter : Cutter Bool Piece
word_cutter = record { read = word_piece; spelling = piece_text; next = λ _ _. false }

-- a word ends in front of a character that is no part of it, or at an escape that is refused
pub data WordEnding : Type 0 where
  Ended : WordEnding
  BadEscape : Text → ErrorView → WordEnding

abbrev pub bad_escape_ending : Escape → WordEnding
bad_escape_ending (Accepted spelling value faults) = Ended
bad_escape_ending (Refused spelling error) = BadEscape spelling error

abbrev pub word_ending_of : WordRole → Text → WordEnding
word_ending_of Part text = Ended
word_ending_of Backslash text = bad_escape_ending (escape InWord text)
word_ending_of Stop text = Ended

abbrev pub word_ending : Text → WordEnding
word_ending [] = Ended
word_ending (c ∷ cs) = word_ending_of (word_role c) (c ∷ cs)

-- The unescaped text

abbrev pub scanned_name : Result AtomView ErrorView → List Piece → Text → Scanned AtomView
scanned_name value ps spelling = record { value = value; faults = faults_of 0 ps; spelling = spelling; line_break = false }

-- the values of the pieces in a row; a refused escape refuses all up to where reading goes on
abbrev pub found_name : List Piece → WordEnding → Scanned AtomView
found_name ps Ended = scanned_name (Ok (atom_of ps)) ps (spelled word_cutter ps)
found_name ps (BadEscape spelling error) =
    scanned_name (Err (error_behind (byte_len (spelled word_cutter ps)) error)) ps (spelled word_cutter ps ++ spelling)

abbrev pub word_pieces : Text → List Piece
word_pieces text = pieces word_cutter true text

-- the unescaped text of the word with which a text begins: borrowed where it holds no escape
abbrev pub identifier_name : Text → Scanned AtomView
identifier_name text = found_name (word_pieces text) (word_ending (remainder word_cutter true text))

-- The word

-- the same word, with its text owned
abbrev pub owned_word : Word → Word
owned_word (Keyword k) = Keyword k
owned_word Null = Null
owned_word True = True
owned_word False = False
owned_word (Ident (Known k)) = Ident (Known k)
owned_word (Ident (Other text)) = Ident (Other (owned_atom text.bytes))

-- no reserved word is written with an escape (12.7.2)
abbrev pub escaped_word : Context → Text → AtomView → Result Word ErrorView
escaped_word context spelling text =
    if is_reserved context (word_of text.bytes)
    then Err (error_over (plain_kind (EscapeInReservedWord text)) (byte_len spelling))
    else Ok (owned_word (word_of text.bytes))

-- a word is the row of the table of words for its unescaped text
abbrev pub word_value : Context → Text → Result AtomView ErrorView → Result Word ErrorView
word_value context spelling (Err error) = Err error
word_value context spelling (Ok text) = if text.is_borrowed then Ok (word_of text.bytes) else escaped_word context spelling text

abbrev pub found_word : Context → Scanned AtomView → Scanned Word
found_word context name =
    record {
      value = word_value context name.spelling name.value;
      faults = name.faults;
      spelling = name.spelling;
      line_break = false;
    }

-- the word with which a text begins
abbrev pub word : Context → Text → Scanned Word
word context text = found_word context (identifier_name text)

-- Laws

-- The pieces of a word and what follows them are the text, and no piece begins what follows.
abbrev pub WordTiles : Type 0
WordTiles = (text : Text) → Tiled word_cutter true text

-- A word that is not refused is its pieces in a row.
abbrev pub WordIsPieces : Type 0
WordIsPieces = (context : Context) (text : Text) (w : Word) → (word context text).value ≡ Ok w → (word context text).spelling ≡ spelled word_cutter (word_pieces text)

-- What is read as a word is a front of the text.
abbrev pub WordIsFront : Type 0
WordIsFront = (context : Context) (text : Text) → begins_with (word context text).spelling text ≡ true

-- A word that is read cleanly is read the same in front of every separator.
abbrev pub WordIsLocal : Type 0
WordIsLocal = (context : Context) → IsLocal opens_word (word context) separates

-- So is the unescaped text of a word.
abbrev pub NameIsLocal : Type 0
NameIsLocal = IsLocal opens_word identifier_name separates

-- The kind and the text of a word are those of the table row of its unescaped text, wherever its escapes stand.
abbrev pub WordIsItsRow : Type 0
WordIsItsRow =
    (context : Context) (text : Text) (w : Word) → (word context text).value ≡ Ok w
    → (word_kind w ≡ word_kind (word_of (encode_utf8_all (value_of (word_pieces text)))))
    × (word_text w ≡ word_text (word_of (encode_utf8_all (value_of (word_pieces text)))))

-- A run of part characters with no backslash behind it is the table row of what is written.
abbrev pub PlainWordIsItsRow : Type 0
PlainWordIsItsRow =
    (context : Context) (text : Text) → next_is 92 (after is_ident_part text) ≡ false
    → word context text ≡ scanned (word_of (encode_utf8_all (front is_ident_part text))) (front is_ident_part text)

-- No word begins an element of a gap.
abbrev pub WordBeginsNoGap : Type 0
WordBeginsNoGap = (mode : GapMode) (flag : Bool) (text : Text) → opens_word text ≡ true → element mode flag text ≡ None
