-- The classes of the parts of a text, as a stylesheet names them. All of this is our own choice.
use Rattle.std.specs.Prelude.{ℕ, Bool, true, false, List, [], ◌∷◌, Option, Some, None, codes, drop, if◌then◌else◌}
use Rattle.ecma_span.specs.declared.place.Span.{Span}
use Rattle.ecma_word.specs.declared.word.WordKind.{WordKind}
use Rattle.ecma_word.specs.declared.word.WordKind.TheVariants as word
use Rattle.ecma_token.specs.declared.kind.TokenKind.{TokenKind}
use Rattle.ecma_token.specs.declared.kind.TokenKind.TheVariants as kind
use Rattle.ecma_classes.specs.declared.piece.Class as piece
use Rattle.ecma_classes.specs.declared.piece.Class.TheVariants as pieces
use Rattle.ecma_classes.specs.declared.piece.Piece.{Piece}
use Rattle.ecma_styles.specs.declared.«class».Class.{Class}
use Rattle.ecma_styles.specs.declared.«class».Class.TheVariants.{Keyword, Literal, Name, Property, Function, ClassName, TypeName, Decorator, Meta, BuiltIn, Text, Template, Number, Expression, Comment, Wrong}

abbrev pub class_name : Class → List ℕ
class_name Keyword = codes "keyword"
class_name Literal = codes "literal"
class_name Name = codes "name"
class_name Property = codes "property"
class_name Function = codes "function"
class_name ClassName = codes "class"
class_name TypeName = codes "type"
class_name Decorator = codes "decorator"
class_name Meta = codes "meta"
class_name BuiltIn = codes "builtin"
class_name Text = codes "string"
class_name Template = codes "template"
class_name Number = codes "number"
class_name Expression = codes "regexp"
class_name Comment = codes "comment"
class_name Wrong = codes "error"

abbrev pub word_class : WordKind → Class
word_class (word.Keyword k) = Keyword
word_class word.Null = Literal
word_class word.True = Literal
word_class word.False = Literal
word_class (word.Ident i) = Name

-- what stands behind `.` or `#` is a property
abbrev pub names_property : Option TokenKind → Bool
names_property (Some kind.Dot) = true
names_property (Some kind.Hash) = true
names_property _ = false

-- the plain class of a token of this kind, by the kind of the token before; punctuation has none
abbrev pub class_of : TokenKind → Option TokenKind → Option Class
class_of (kind.Word w) previous = Some (if names_property previous then Property else word_class w)
class_of kind.Str previous = Some Text
class_of kind.Template previous = Some Template
class_of kind.BackQuote previous = Some Template
class_of kind.Num previous = Some Number
class_of kind.BigInt previous = Some Number
class_of kind.Regex previous = Some Expression
class_of kind.Shebang previous = Some Comment
class_of kind.Error previous = Some Wrong
class_of _ previous = None

-- a part of a text, and its class
pub record Styled : Type 0 where
  pub span : Span
  pub style : Option Class

abbrev pub style_of : Styled → Option Class
style_of s = s.style

abbrev pub first_class : List (Option Class) → Option Class
first_class [] = None
first_class (c ∷ cs) = c

-- that of a piece, and the classes that are left behind it: those of tokens are taken in order
abbrev pub piece_class : piece.Class → List (Option Class) → Option Class
piece_class pieces.Token classes = first_class classes
piece_class pieces.Comment classes = Some Comment
piece_class pieces.Trivia classes = None

abbrev pub left_classes : piece.Class → List (Option Class) → List (Option Class)
left_classes pieces.Token classes = drop 1 classes
left_classes pieces.Comment classes = classes
left_classes pieces.Trivia classes = classes

abbrev pub styled : List (Option Class) → List Piece → List Styled
styled classes [] = []
styled classes (p ∷ ps) = record { span = p.span; style = piece_class p.class classes } ∷ styled (left_classes p.class classes) ps
