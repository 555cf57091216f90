-- Punctuators (ECMA-262 Punctuator, DivPunctuator and RightBracePunctuator, 12.8, and the back quote of 12.9.6): the
-- longest of a table with which a text begins. That `?.` is two and that `@` and `#` are some is our own choice.
use Rattle.std.specs.Prelude.{◌≡◌, ◌≤◌, ℕ, ◌-◌, length, drop, Bool, true, false, not, ◌&&◌, ◌||◌, ◌==◌, List, [], ◌∷◌, ◌++◌, codes, Option, Some, None, option_map, if◌then◌else◌}
use Rattle.std.specs.List.{list_all, Contains}
use Rattle.ecma_place.specs.Text.{Text}
use Rattle.ecma_syntax.specs.declared.operator.BinOpToken.TheVariants as bin
use Rattle.ecma_syntax.specs.declared.operator.AssignOp.TheVariants as assign
use Rattle.ecma_token.specs.View.{TokenView, plain_token}
use Rattle.ecma_token.specs.declared.token.Token.{Token, Arrow, At, BackQuote, Bang, Colon, Comma, Dot, DotDotDot, Hash, LBrace, LBracket, LParen, MinusMinus, PlusPlus, QuestionMark, RBrace, RBracket, RParen, Semi, Tilde, BinOp, AssignOp}
use Rattle.ecma_grammar.specs.declared.gap_mode.GapMode.{GapMode}
use Rattle.ecma_grammar.specs.Found.{Scanned, scanned}
use Rattle.ecma_grammar.specs.Fronts.{begins_with}
use Rattle.ecma_grammar.specs.Gaps.{element}
use Rattle.ecma_grammar.specs.Locality.{IsLocal, separates}
use Rattle.ecma_grammar.specs.Numbers.{opens_fraction}

-- a punctuator: how it is written, and its token
pub record Punctuator : Type 0 where
  pub spelling : Text
  pub token : Token

abbrev pub spells : Text → Token → Punctuator
spells spelling token = record { spelling = spelling; token = token }

-- The table. No spelling begins one that stands further down, so the first that fits is the longest.
abbrev pub punctuators : List Punctuator
punctuators =
    spells (codes "{") LBrace ∷
    spells (codes "}") RBrace ∷
    spells (codes "(") LParen ∷
    spells (codes ")") RParen ∷
    spells (codes "[") LBracket ∷
    spells (codes "]") RBracket ∷
    spells (codes ";") Semi ∷
    spells (codes ",") Comma ∷
    spells (codes "~") Tilde ∷
    spells (codes "@") At ∷
    spells (codes "#") Hash ∷
    spells (codes ":") Colon ∷
    spells (codes "`") BackQuote ∷
    spells (codes "...") DotDotDot ∷
    spells (codes ".") Dot ∷
    spells (codes "===") (BinOp bin.EqEqEq) ∷
    spells (codes "==") (BinOp bin.EqEq) ∷
    spells (codes "=>") Arrow ∷
    spells (codes "=") (AssignOp assign.Assign) ∷
    spells (codes "!==") (BinOp bin.NotEqEq) ∷
    spells (codes "!=") (BinOp bin.NotEq) ∷
    spells (codes "!") Bang ∷
    spells (codes "<<=") (AssignOp assign.LShiftAssign) ∷
    spells (codes "<<") (BinOp bin.LShift) ∷
    spells (codes "<=") (BinOp bin.LtEq) ∷
    spells (codes "<") (BinOp bin.Lt) ∷
    spells (codes ">>>=") (AssignOp assign.ZeroFillRShiftAssign) ∷
    spells (codes ">>>") (BinOp bin.ZeroFillRShift) ∷
    spells (codes ">>=") (AssignOp assign.RShiftAssign) ∷
    spells (codes ">>") (BinOp bin.RShift) ∷
    spells (codes ">=") (BinOp bin.GtEq) ∷
    spells (codes ">") (BinOp bin.Gt) ∷
    spells (codes "++") PlusPlus ∷
    spells (codes "+=") (AssignOp assign.AddAssign) ∷
    spells (codes "+") (BinOp bin.Add) ∷
    spells (codes "--") MinusMinus ∷
    spells (codes "-=") (AssignOp assign.SubAssign) ∷
    spells (codes "-") (BinOp bin.Sub) ∷
    spells (codes "**=") (AssignOp assign.ExpAssign) ∷
    spells (codes "**") (BinOp bin.Exp) ∷
    spells (codes "*=") (AssignOp assign.MulAssign) ∷
    spells (codes "*") (BinOp bin.Mul) ∷
    spells (codes "/=") (AssignOp assign.DivAssign) ∷
    spells (codes "/") (BinOp bin.Div) ∷
    spells (codes "%=") (AssignOp assign.ModAssign) ∷
    spells (codes "%") (BinOp bin.Mod) ∷
    spells (codes "||=") (AssignOp assign.OrAssign) ∷
    spells (codes "||") (BinOp bin.LogicalOr) ∷
    spells (codes "|=") (AssignOp assign.BitOrAssign) ∷
    spells (codes "|") (BinOp bin.BitOr) ∷
    spells (codes "&&=") (AssignOp assign.AndAssign) ∷
    spells (codes "&&") (BinOp bin.LogicalAnd) ∷
    spells (codes "&=") (AssignOp assign.BitAndAssign) ∷
    spells (codes "&") (BinOp bin.BitAnd) ∷
    spells (codes "^=") (AssignOp assign.BitXorAssign) ∷
    spells (codes "^") (BinOp bin.BitXor) ∷
    spells (codes "??=") (AssignOp assign.NullishAssign) ∷
    spells (codes "??") (BinOp bin.NullishCoalescing) ∷
    spells (codes "?") QuestionMark ∷ []

-- the first of the list with which the text begins
abbrev pub first_of : List Punctuator → Text → Option Punctuator
first_of [] text = None
first_of (p ∷ ps) text = if begins_with p.spelling text then Some p else first_of ps text

abbrev pub token_in : Option Punctuator → Option Token
token_in (Some p) = Some p.token
token_in None = None

-- how many of its characters stand behind the first
abbrev pub count_behind : Option Punctuator → ℕ
count_behind (Some p) = length p.spelling - 1
count_behind None = 0

abbrev pub spelling_in : Option Punctuator → Text
spelling_in (Some p) = p.spelling
spelling_in None = []

-- no spelling but the character itself begins with it
unfoldable pub is_lone : ℕ → Bool
is_lone c =
    c == 123 || (c == 125 || (c == 40 || (c == 41 || (c == 91 || (c == 93 || (c == 59 || (c == 44 || (c == 126 || (c == 64 || (c == 35 || (c == 58 || (c == 96))))))))))))

-- several spellings begin with the character
unfoldable pub begins_more : ℕ → Bool
begins_more c =
    c == 46 || (c == 61 || (c == 33 || (c == 60 || (c == 62 || (c == 43 || (c == 45 || (c == 42 || (c == 47 || (c == 37 || (c == 124 || (c == 38 || (c == 94 || (c == 63)))))))))))))

-- among types `<` and `>` stand alone
abbrev pub angle : ℕ → Option Token
angle c = if c == 60 then Some (BinOp bin.Lt) else (if c == 62 then Some (BinOp bin.Gt) else None)

abbrev pub angle_in : Bool → ℕ → Option Token
angle_in true c = angle c
angle_in false c = None

-- none begins at a point before a digit, which is a number's
abbrev pub longest : Bool → Text → Option Punctuator
longest true text = None
longest false text = first_of punctuators text

abbrev pub alone_or : Option Token → ℕ → Text → Option Punctuator
alone_or (Some token) c cs = Some (spells (c ∷ []) token)
alone_or None c cs = longest (opens_fraction (c ∷ cs)) (c ∷ cs)

abbrev pub punctuator_in : Bool → Text → Option Punctuator
punctuator_in type_mode [] = None
punctuator_in type_mode (c ∷ cs) = alone_or (angle_in type_mode c) c cs

abbrev pub found_punctuator : Option Punctuator → Scanned (Option TokenView)
found_punctuator found = scanned (option_map (λ p. plain_token p.token) found) (spelling_in found)

-- the punctuator with which a text begins, or nothing
abbrev pub punctuator : Bool → Text → Scanned (Option TokenView)
punctuator type_mode text = found_punctuator (punctuator_in type_mode text)

-- no spelling of the list begins one further down
abbrev pub is_longest_first : List Punctuator → Bool
is_longest_first [] = true
is_longest_first (p ∷ ps) = list_all (λ q. not (begins_with p.spelling q.spelling)) ps && is_longest_first ps

-- Laws

-- No spelling of the table begins one further down.
abbrev pub TableIsLongestFirst : Type 0
TableIsLongestFirst = is_longest_first punctuators ≡ true

-- Whichever member of the table begins the text, what is found is no shorter.
abbrev pub PunctuatorIsLongest : Type 0
PunctuatorIsLongest =
    (text : Text) (found q : Punctuator) → first_of punctuators text ≡ Some found → Contains punctuators q → begins_with q.spelling text ≡ true
    → length q.spelling ≤ length found.spelling

-- What is found is a member of the table, and the text begins with it.
abbrev pub PunctuatorIsMember : Type 0
PunctuatorIsMember = (text : Text) (found : Punctuator) → first_of punctuators text ≡ Some found → Contains punctuators found × (begins_with found.spelling text ≡ true)

-- Where nothing is found, no member of the table begins the text.
abbrev pub NoPunctuatorIsMissed : Type 0
NoPunctuatorIsMissed = (text : Text) (q : Punctuator) → first_of punctuators text ≡ None → Contains punctuators q → begins_with q.spelling text ≡ false

-- What is read and what follows it are the text.
abbrev pub PunctuatorTiles : Type 0
PunctuatorTiles = (type_mode : Bool) (text : Text) → (punctuator type_mode text).spelling ++ drop (length (punctuator type_mode text).spelling) text ≡ text

abbrev pub any_text : Text → Bool
any_text text = true

-- A punctuator is read the same at the end of the text and in front of a space or a line feed; there none begins.
abbrev pub PunctuatorIsLocal : Type 0
PunctuatorIsLocal = (type_mode : Bool) → IsLocal any_text (punctuator type_mode) separates

abbrev pub IsReadAlways : Text → Token → Type 0
IsReadAlways spelling token = (type_mode : Bool) (r : Text) → punctuator type_mode (spelling ++ r) ≡ scanned (Some (plain_token token)) spelling

-- A back quote, `}` and `)` are read whatever follows.
abbrev pub ClosersAreLocal : Type 0
ClosersAreLocal = IsReadAlways (codes "`") BackQuote × IsReadAlways (codes "}") RBrace × IsReadAlways (codes ")") RParen

-- At the end of the text and in front of a space or a line feed no punctuator begins an element of a gap.
abbrev pub PunctuatorBeginsNoGap : Type 0
PunctuatorBeginsNoGap =
    (type_mode : Bool) (mode : GapMode) (flag : Bool) (text r : Text) (found : Punctuator) → punctuator_in type_mode text ≡ Some found → separates r ≡ true
    → element mode flag (found.spelling ++ r) ≡ None
