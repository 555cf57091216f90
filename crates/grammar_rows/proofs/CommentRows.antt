-- Comments, markers of bars and shebangs that were read by hand.
use Rattle.std.proofs.Common.{◌≡◌, ℕ, List, [], ◌∷◌, ◌++◌, Bool, true, false, Option, Some, None, refl}
use Rattle.std.specs.Prelude.{codes}
use Rattle.ecma_place.specs.Text.{Text}
use Rattle.ecma_place.specs.Atom.{borrowed_atom}
use Rattle.ecma_place.specs.Character.{is_white_space, is_line_terminator}
use Rattle.ecma_place.specs.declared.comment.Comment.{Comment}
use Rattle.ecma_place.specs.declared.comment.CommentKind.{CommentKind}
use Rattle.ecma_place.specs.declared.comment.CommentKind.TheVariants.{Line, Block}
use Rattle.ecma_syntax.specs.declared.operator.BinOpToken.TheVariants.{Add}
use Rattle.ecma_syntax.specs.declared.word.IdentKind.TheVariants.{Other}
use Rattle.ecma_syntax.specs.declared.word.WordKind.TheVariants.{Ident, Null}
use Rattle.ecma_token.specs.View.{plain_token}
use Rattle.ecma_token.specs.declared.error.SyntaxError.{UnterminatedBlockComment, TS1185}
use Rattle.ecma_token.specs.declared.kind.TokenKind.{TokenKind}
use Rattle.ecma_token.specs.declared.kind.TokenKind.TheVariants as kind
use Rattle.ecma_token.specs.declared.token.Token.{Shebang}
use Rattle.ecma_grammar.specs.declared.found.Blame.TheVariants.{Always}
use Rattle.ecma_grammar.specs.declared.gap_mode.GapMode.{GapMode}
use Rattle.ecma_grammar.specs.Bars.{Bars, bars_error, bars_at}
use Rattle.ecma_grammar.specs.Comments.{comments_at}
use Rattle.ecma_grammar.specs.Found.{Fault, scanned, span_of}
use Rattle.ecma_grammar.specs.Gaps.{fault_between}
use Rattle.ecma_grammar.specs.Shebangs.{shebang}
use lib.Utf8.{encode}

-- the mode behind a token of this kind, or at the start
abbrev collecting : Bool → Option TokenKind → GapMode
collecting first prev =
    record { first = first; type_mode = false; keeps_space = false; template = false; prev = prev; collect = true }

abbrev start : GapMode
start = collecting true None

abbrev behind : TokenKind → GapMode
behind kind = collecting false (Some kind)

abbrev name : TokenKind
name = kind.Word (Ident Other)

abbrev silent : GapMode
silent = record start { collect = false }

-- a comment between two places, and whether it is for the next token
abbrev noted : CommentKind → ℕ → ℕ → Text → Bool → Comment × Bool
noted kind low high text for_next = (record { kind = kind; span = span_of low high; text = borrowed_atom text }, for_next)

-- Which comments a gap has

at_the_start : comments_at 0 start (codes "/**/a") ≡ noted Block 0 4 [] true ∷ []
unfolding is_white_space is_line_terminator encode
at_the_start = refl

alone : comments_at 0 start (codes "/*a*/") ≡ noted Block 0 5 (codes "a") true ∷ []
unfolding is_white_space is_line_terminator encode
alone = refl

-- a block comment behind a parenthesis is for the next token, a line comment is not
two : comments_at 3 (behind kind.RParen) (codes " /*a*/ //b") ≡ noted Block 4 9 (codes "a") true ∷ noted Line 10 13 (codes "b") false ∷ []
unfolding is_white_space is_line_terminator encode
two = refl

html_closing : comments_at 1 (behind name) (codes "\n-->x\nb") ≡ noted Line 5 6 (codes "x") true ∷ []
unfolding is_white_space is_line_terminator encode
html_closing = refl

bare_closing : comments_at 1 (behind name) (codes "\n-->\nb") ≡ noted Line 5 5 [] true ∷ []
unfolding is_white_space is_line_terminator encode
bare_closing = refl

html_opening : comments_at 1 (behind name) (codes "<!--y\nz") ≡ noted Line 2 6 (codes "y") false ∷ []
unfolding is_white_space is_line_terminator encode
html_opening = refl

equals : comments_at 1 (behind name) (codes "\n=======\nb") ≡ noted Line 5 9 [] true ∷ []
unfolding is_white_space is_line_terminator encode
equals = refl

less : comments_at 0 start (codes "\n<<<<<<< x\ny") ≡ noted Line 3 10 (codes " x") true ∷ []
unfolding is_white_space is_line_terminator encode
less = refl

greater : comments_at 0 start (codes "\n>>>>>>> x\ny") ≡ noted Line 4 10 (codes "x") true ∷ []
unfolding is_white_space is_line_terminator encode
greater = refl

open_comment : comments_at 1 (behind name) (codes " /*a") ≡ []
unfolding is_white_space is_line_terminator encode
open_comment = refl

wide : comments_at 0 start (codes "/*" ++ (0xE9 ∷ codes "*/")) ≡ noted Block 0 6 (0xC3 ∷ 0xA9 ∷ []) true ∷ []
unfolding is_white_space is_line_terminator encode
wide = refl

not_collected : comments_at 0 silent (codes "/**/a") ≡ []
unfolding is_white_space is_line_terminator encode
not_collected = refl

-- For which token they are

behind_semicolon : comments_at 2 (behind kind.Semi) (codes " /*b*/ c") ≡ noted Block 3 8 (codes "b") false ∷ []
unfolding is_white_space is_line_terminator encode
behind_semicolon = refl

behind_null : comments_at 4 (behind (kind.Word Null)) (codes " /*b*/ c") ≡ noted Block 5 10 (codes "b") true ∷ []
unfolding is_white_space is_line_terminator encode
behind_null = refl

-- before a semicolon
before_semicolon : comments_at 3 (behind (kind.BinOp Add)) (codes " /*b*/;") ≡ noted Block 4 9 (codes "b") false ∷ []
unfolding is_white_space is_line_terminator encode
before_semicolon = refl

before_far_semicolon : comments_at 1 (behind (kind.BinOp Add)) (codes "/*b*/ \n ;") ≡ noted Block 1 6 (codes "b") false ∷ []
unfolding is_white_space is_line_terminator encode
before_far_semicolon = refl

-- another comment stands before the semicolon
comment_between : comments_at 1 (behind (kind.BinOp Add)) (codes "/*b*//*c*/;") ≡ noted Block 1 6 (codes "b") true ∷ noted Block 6 11 (codes "c") false ∷ []
unfolding is_white_space is_line_terminator encode
comment_between = refl

line_behind_operator : comments_at 1 (behind (kind.BinOp Add)) (codes "//b") ≡ noted Line 1 4 (codes "b") true ∷ []
unfolding is_white_space is_line_terminator encode
line_behind_operator = refl

-- a line comment is for the next token also before a semicolon
line_before_semicolon : comments_at 1 (behind (kind.BinOp Add)) (codes "//b\n;") ≡ noted Line 1 4 (codes "b") true ∷ []
unfolding is_white_space is_line_terminator encode
line_before_semicolon = refl

behind_shebang : comments_at 3 (collecting true (Some kind.Shebang)) (codes "\n//c") ≡ noted Line 4 7 (codes "c") true ∷ []
unfolding is_white_space is_line_terminator encode
behind_shebang = refl

-- where no token came before but the flag does not stand
line_at_no_flag : comments_at 0 (collecting false None) (codes "//c") ≡ noted Line 0 3 (codes "c") false ∷ []
unfolding is_white_space is_line_terminator encode
line_at_no_flag = refl

break_inside : comments_at 1 (behind name) (codes "/*\n*/ /*a*/b") ≡ noted Block 1 6 (codes "\n") false ∷ noted Block 7 12 (codes "a") true ∷ []
unfolding is_white_space is_line_terminator encode
break_inside = refl

-- Bars

abbrev found : Text → List Fault → List (Comment × Bool) → Option Bars
found spelling more comments =
    Some (record { spelling = spelling; error = bars_error; faults = fault_between Always TS1185 0 7 ∷ more; comments = comments; line_break = true })

-- the token reaches to behind the line feed
bars : bars_at 1 start (codes "||||||| base\ny") ≡ found (codes "||||||| base\n") [] (noted Line 3 13 (codes " base") true ∷ [])
unfolding is_white_space is_line_terminator encode
bars = refl

bars_silent : bars_at 1 silent (codes "||||||| base\ny") ≡ found (codes "||||||| base\n") [] []
unfolding is_white_space is_line_terminator encode
bars_silent = refl

no_bars : bars_at 1 start (codes "|||||||\n") ≡ None
unfolding is_white_space is_line_terminator encode
no_bars = refl

-- a semicolon keeps a block comment from the token of the bars
bars_and_semicolon : bars_at 0 start (codes "||||||| \n/*a*/ ;") ≡ found (codes "||||||| \n/*a*/ ") [] (noted Line 2 8 (codes " ") true ∷ noted Block 9 14 (codes "a") false ∷ [])
unfolding is_white_space is_line_terminator encode
bars_and_semicolon = refl

-- HTML-like comments are no part of it
bars_and_closing : bars_at 0 start (codes "||||||| \n-->\n/*") ≡ found (codes "||||||| \n") [] (noted Line 2 8 (codes " ") true ∷ [])
unfolding is_white_space is_line_terminator encode
bars_and_closing = refl

bars_and_open : bars_at 0 start (codes "||||||| \n/*") ≡ found (codes "||||||| \n/*") (fault_between Always UnterminatedBlockComment 9 11 ∷ []) (noted Line 2 8 (codes " ") true ∷ [])
unfolding is_white_space is_line_terminator encode
bars_and_open = refl

-- Shebangs

first_line : shebang (codes "#!x\na") ≡ scanned (Some (plain_token (Shebang (borrowed_atom (codes "x"))))) (codes "#!x")
unfolding is_white_space is_line_terminator encode
first_line = refl

only_line : shebang (codes "#!") ≡ scanned (Some (plain_token (Shebang (borrowed_atom [])))) (codes "#!")
unfolding is_white_space is_line_terminator encode
only_line = refl

no_shebang : shebang (codes " #!x") ≡ scanned None []
unfolding is_white_space is_line_terminator encode
no_shebang = refl

hash_alone : shebang (codes "#x") ≡ scanned None []
unfolding is_white_space is_line_terminator encode
hash_alone = refl
