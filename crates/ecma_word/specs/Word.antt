-- Which word a text is.
--
-- ECMA-262, 12.7, calls a word an IdentifierName, and 12.7.2 the words that are no names; 13.2.3 has the literal words.
use Rattle.std.specs.Prelude.{ℕ, Bool, List, Option, None, Some, codes, nat_eq, if◌then◌else◌}
use Rattle.std.specs.Option.{option_map_or}
use Rattle.std.specs.Cmp.Lexicographic.{pointwise}
use Rattle.ecma_span.specs.Atom.{AtomView, borrowed_atom}
use Rattle.ecma_word.specs.KnownIdent.{known_text, known_of}
use Rattle.ecma_word.specs.Keyword.{keyword_text, keyword_of}
use Rattle.ecma_word.specs.declared.known_ident.KnownIdent.{KnownIdent}
use Rattle.ecma_word.specs.declared.word.IdentLike.{IdentLike}
use Rattle.ecma_word.specs.declared.word.IdentLike.TheVariants.{Known, Other}
use Rattle.ecma_word.specs.declared.word.IdentKind.{IdentKind}
use Rattle.ecma_word.specs.declared.word.IdentKind.TheVariants as ident_kind
use Rattle.ecma_word.specs.declared.word.WordKind.{WordKind}
use Rattle.ecma_word.specs.declared.word.WordKind.TheVariants as kind
use Rattle.ecma_word.specs.declared.word.Word.{Word}
use Rattle.ecma_word.specs.declared.word.Word.TheVariants.{Keyword, Null, True, False, Ident}

abbrev pub is_text : List ℕ → List ℕ → Bool
is_text word text = pointwise nat_eq word text

-- a name, known or not
abbrev pub ident_of : List ℕ → IdentLike
ident_of text = option_map_or Known (known_of text) (Other (borrowed_atom text))

-- a keyword, a literal word or a name
abbrev pub word_of : List ℕ → Word
word_of text =
    option_map_or Keyword (keyword_of text)
    (if is_text (codes "null") text then Null
    else if is_text (codes "true") text then True
    else if is_text (codes "false") text then False
    else Ident (ident_of text))

abbrev pub ident_text : IdentLike → List ℕ
ident_text (Known k) = known_text k
ident_text (Other atom) = atom.bytes

abbrev pub word_text : Word → List ℕ
word_text (Keyword k) = keyword_text k
word_text Null = codes "null"
word_text True = codes "true"
word_text False = codes "false"
word_text (Ident i) = ident_text i

abbrev pub ident_kind_of : IdentLike → IdentKind
ident_kind_of (Known k) = ident_kind.Known k
ident_kind_of (Other atom) = ident_kind.Other

abbrev pub word_kind : Word → WordKind
word_kind (Keyword k) = kind.Keyword k
word_kind Null = kind.Null
word_kind True = kind.True
word_kind False = kind.False
word_kind (Ident i) = kind.Ident (ident_kind_of i)

-- the text of a name as an atom: a known name's is borrowed
abbrev pub ident_atom : IdentLike → AtomView
ident_atom (Known k) = borrowed_atom (known_text k)
ident_atom (Other atom) = atom

-- the text of a word as an atom: a name's own, else borrowed
abbrev pub word_atom : Word → AtomView
word_atom (Keyword k) = borrowed_atom (keyword_text k)
word_atom Null = borrowed_atom (codes "null")
word_atom True = borrowed_atom (codes "true")
word_atom False = borrowed_atom (codes "false")
word_atom (Ident i) = ident_atom i

-- its text is borrowed
abbrev pub ident_owns_nothing : IdentLike → Bool
ident_owns_nothing i = (ident_atom i).is_borrowed

abbrev pub word_owns_nothing : Word → Bool
word_owns_nothing word = (word_atom word).is_borrowed

-- the word of this kind, with this text where it is an other name
abbrev pub word_of_kind : WordKind → List ℕ → Word
word_of_kind (kind.Keyword k) text = Keyword k
word_of_kind kind.Null text = Null
word_of_kind kind.True text = True
word_of_kind kind.False text = False
word_of_kind (kind.Ident (ident_kind.Known k)) text = Ident (Known k)
word_of_kind (kind.Ident ident_kind.Other) text = Ident (Other (borrowed_atom text))

-- the known name of this kind
abbrev pub known_of_kind : WordKind → Option KnownIdent
known_of_kind (kind.Keyword k) = None
known_of_kind kind.Null = None
known_of_kind kind.True = None
known_of_kind kind.False = None
known_of_kind (kind.Ident (ident_kind.Known k)) = Some k
known_of_kind (kind.Ident ident_kind.Other) = None
