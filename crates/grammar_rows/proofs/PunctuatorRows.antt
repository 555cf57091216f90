-- Punctuators that were read by hand.
use Rattle.std.proofs.Common.{◌≡◌, true, false, [], ◌∷◌, map, length, Some, None, refl}
use Rattle.std.specs.Prelude.{codes}
use Rattle.ecma_syntax.specs.declared.operator.BinOpToken.TheVariants as bin
use Rattle.ecma_syntax.specs.declared.operator.AssignOp.TheVariants as assign
use Rattle.ecma_token.specs.View.{plain_token}
use Rattle.ecma_token.specs.declared.token.Token.{AssignOp, BackQuote, Bang, BinOp, Dot, DotDotDot, Hash, QuestionMark, RBrace, Semi}
use Rattle.ecma_grammar.specs.Found.{scanned}
use Rattle.ecma_grammar.specs.Punctuators.{punctuators, punctuator_in, punctuator}

-- twenty of their own kind, twenty-three binary operators, and sixteen that assign
all : length punctuators ≡ 59
all = refl

-- each spelling by itself is its punctuator
each : map (λ p. punctuator_in false p.spelling) punctuators ≡ map (λ p. Some p) punctuators
each = refl

-- `= 1;`
assignment : punctuator false (codes "= 1;") ≡ scanned (Some (plain_token (AssignOp assign.Assign))) (codes "=")
assignment = refl

-- `;`
semicolon : punctuator false (codes ";") ≡ scanned (Some (plain_token Semi)) (codes ";")
semicolon = refl

-- `/ /b/g`: what begins with a slash is an operator
division : punctuator false (codes "/ /b/g") ≡ scanned (Some (plain_token (BinOp bin.Div))) (codes "/")
division = refl

-- `/=`
division_assignment : punctuator false (codes "/=b") ≡ scanned (Some (plain_token (AssignOp assign.DivAssign))) (codes "/=")
division_assignment = refl

-- `}`
closing_brace : punctuator false (codes "}") ≡ scanned (Some (plain_token RBrace)) (codes "}")
closing_brace = refl

-- `#!x` behind white space
hash : punctuator false (codes "#!x") ≡ scanned (Some (plain_token Hash)) (codes "#")
hash = refl

-- `!x`
bang : punctuator false (codes "!x") ≡ scanned (Some (plain_token Bang)) (codes "!")
bang = refl

-- `<<<<<<< x` among types
angles_among_types : punctuator true (codes "<<<<<<< x") ≡ scanned (Some (plain_token (BinOp bin.Lt))) (codes "<")
angles_among_types = refl

-- `>>=` among types
closing_angles_among_types : punctuator true (codes ">>=") ≡ scanned (Some (plain_token (BinOp bin.Gt))) (codes ">")
closing_angles_among_types = refl

-- seven `=` behind a token are `===`, `===` and `=`
equals : punctuator false (codes "=======") ≡ scanned (Some (plain_token (BinOp bin.EqEqEq))) (codes "===")
equals = refl

equals_left : punctuator false (codes "====") ≡ scanned (Some (plain_token (BinOp bin.EqEqEq))) (codes "===")
equals_left = refl

equals_last : punctuator false (codes "=") ≡ scanned (Some (plain_token (AssignOp assign.Assign))) (codes "=")
equals_last = refl

-- seven bars are three `||` and `|`
bars : punctuator false (codes "|||||||") ≡ scanned (Some (plain_token (BinOp bin.LogicalOr))) (codes "||")
bars = refl

last_bar : punctuator false (codes "|") ≡ scanned (Some (plain_token (BinOp bin.BitOr))) (codes "|")
last_bar = refl

-- `?.b` is two
question : punctuator false (codes "?.b") ≡ scanned (Some (plain_token QuestionMark)) (codes "?")
question = refl

point_before_name : punctuator false (codes ".b") ≡ scanned (Some (plain_token Dot)) (codes ".")
point_before_name = refl

-- `...`
point_before_points : punctuator false (codes "...5") ≡ scanned (Some (plain_token DotDotDot)) (codes "...")
point_before_points = refl

-- `.`
point_at_the_end : punctuator false (codes ".") ≡ scanned (Some (plain_token Dot)) (codes ".")
point_at_the_end = refl

-- `+ /*b*/;`
plus : punctuator false (codes "+ /*b*/;") ≡ scanned (Some (plain_token (BinOp bin.Add))) (codes "+")
plus = refl

-- `<<=` is one, whatever follows
shift_assignment : punctuator false (codes "<<=======") ≡ scanned (Some (plain_token (AssignOp assign.LShiftAssign))) (codes "<<=")
shift_assignment = refl

-- `>>>=` is one, whatever follows
unsigned_shift_assignment : punctuator false (codes ">>>=>>> x") ≡ scanned (Some (plain_token (AssignOp assign.ZeroFillRShiftAssign))) (codes ">>>=")
unsigned_shift_assignment = refl

-- a back quote
back_quote : punctuator false (codes "`a") ≡ scanned (Some (plain_token BackQuote)) (codes "`")
back_quote = refl

-- a point before a digit is a number's
fraction_is_none : punctuator false (codes ".5e1") ≡ scanned None []
fraction_is_none = refl

-- U+0000
null_is_none : punctuator false (0 ∷ codes "a") ≡ scanned None []
null_is_none = refl

-- a quote
quote_is_none : punctuator false (codes "\"") ≡ scanned None []
quote_is_none = refl

-- a backslash
backslash_is_none : punctuator false (codes "\\") ≡ scanned None []
backslash_is_none = refl

-- `€`
euro_is_none : punctuator false (0x20AC ∷ []) ≡ scanned None []
euro_is_none = refl

-- `${` is a template's
dollar_brace_is_none : punctuator false (codes "${") ≡ scanned None []
dollar_brace_is_none = refl

-- a letter
letter_is_none : punctuator false (codes "a") ≡ scanned None []
letter_is_none = refl

-- the end
empty_is_none : punctuator false [] ≡ scanned None []
empty_is_none = refl
