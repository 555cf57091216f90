-- What holds of every word and of every operator.
use Rattle.std.specs.Prelude.{◌≡◌, ℕ, List, find, map, unwrap_or}
use Rattle.std.specs.List.{Contains}
use Rattle.ecma_span.specs.Atom.{borrowed_atom}
use Rattle.ecma_word.specs.Operators.{bin_op_text, binary_op_of, binary_op_text}
use Rattle.ecma_word.specs.Table.{table_of_words, has_text}
use Rattle.ecma_word.specs.Word.{word_of, word_text}
use Rattle.ecma_word.specs.declared.operator.BinOpToken.{BinOpToken}
use Rattle.ecma_word.specs.declared.word.IdentLike.TheVariants.{Known, Other}
use Rattle.ecma_word.specs.declared.word.Word.{Word}
use Rattle.ecma_word.specs.declared.word.Word.TheVariants.{Keyword, Null, True, False, Ident}

-- an other name has no text of the table
abbrev pub IsProper : Word → Type 0
IsProper (Keyword k) = Unit {0}
IsProper Null = Unit {0}
IsProper True = Unit {0}
IsProper False = Unit {0}
IsProper (Ident (Known k)) = Unit {0}
IsProper (Ident (Other atom)) = ¬ Contains (map word_text table_of_words) atom.bytes

-- the same word, with its text borrowed
abbrev pub borrowed_word : Word → Word
borrowed_word (Keyword k) = Keyword k
borrowed_word Null = Null
borrowed_word True = True
borrowed_word False = False
borrowed_word (Ident (Known k)) = Ident (Known k)
borrowed_word (Ident (Other atom)) = Ident (Other (borrowed_atom atom.bytes))

-- reading a word's text gives the word back
abbrev pub WordsReadBack : Type 0
WordsReadBack = (word : Word) → IsProper word → word_of (word_text word) ≡ borrowed_word word

-- a word has the text that it was read from
abbrev pub WordsKeepTheirText : Type 0
WordsKeepTheirText = (text : List ℕ) → word_text (word_of text) ≡ text

-- a word is a look-up of its text in the table; what the table lacks is a name that borrows it
abbrev pub WordsAreLookedUp : Type 0
WordsAreLookedUp = (text : List ℕ) → word_of text ≡ unwrap_or (find (has_text text) table_of_words) (Ident (Other (borrowed_atom text)))

-- an operator of a syntax tree is written as its token
abbrev pub OperatorsKeepTheirText : Type 0
OperatorsKeepTheirText = (token : BinOpToken) → binary_op_text (binary_op_of token) ≡ bin_op_text token
