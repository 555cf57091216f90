-- Gaps that were read by hand.
use Rattle.std.proofs.Common.{◌≡◌, List, [], ◌∷◌, ◌++◌, Bool, true, false, None, refl}
use Rattle.std.specs.Prelude.{codes, replicate}
use Rattle.ecma_place.specs.Text.{Text}
use Rattle.ecma_place.specs.Character.{is_white_space, is_line_terminator}
use Rattle.ecma_token.specs.declared.error.SyntaxError.{UnterminatedBlockComment, LegacyCommentInModule, TS1185}
use Rattle.ecma_grammar.specs.declared.found.Blame.TheVariants.{Always, Module}
use Rattle.ecma_grammar.specs.declared.gap_mode.GapMode.{GapMode}
use Rattle.ecma_grammar.specs.Found.{Fault}
use Rattle.ecma_grammar.specs.Gaps.{Element, Blank, LineComment, BlockComment, OpenComment, HtmlOpening, HtmlClosing, Marker, fault_between, gap, gap_faults, has_line_break, behind_gap}
use lib.Utf8.{encode}

-- whether no token came before, whether among types, whether space is kept, and whether a template's text is read
abbrev mode_with : Bool → Bool → Bool → Bool → GapMode
mode_with first type_mode keeps_space template =
    record { first = first; type_mode = type_mode; keeps_space = keeps_space; template = template; prev = None; collect = true }

abbrev start : GapMode
start = mode_with true false false false

abbrev later : GapMode
later = mode_with false false false false

abbrev types : GapMode
types = mode_with false true false false

abbrev kept : Bool → GapMode
kept first = mode_with first false true false

abbrev templates : Bool → GapMode
templates keeps_space = mode_with true false keeps_space true

-- the elements, their faults, the flag, and what follows
abbrev read : GapMode → Text → List Element × List Fault × Bool × Text
read mode text = (gap mode text, gap_faults mode text, has_line_break mode text, behind_gap mode text)

-- White space

nothing : read start [] ≡ ([], [], true, [])
unfolding is_white_space is_line_terminator encode
nothing = refl

token_at_once : read later (codes "=1") ≡ ([], [], false, codes "=1")
unfolding is_white_space is_line_terminator encode
token_at_once = refl

space : read later (codes " x") ≡ (Blank 32 ∷ [], [], false, codes "x")
unfolding is_white_space is_line_terminator encode
space = refl

line_feed : read later (codes "\nb") ≡ (Blank 10 ∷ [], [], true, codes "b")
unfolding is_white_space is_line_terminator encode
line_feed = refl

-- U+2028 is a line terminator, U+0085 is white space alone
line_separator : read later (0x2028 ∷ codes "b") ≡ (Blank 0x2028 ∷ [], [], true, codes "b")
unfolding is_white_space is_line_terminator encode
line_separator = refl

next_line : read later (0x85 ∷ codes "b") ≡ (Blank 0x85 ∷ [], [], false, codes "b")
unfolding is_white_space is_line_terminator encode
next_line = refl

byte_order_mark : read start (0xFEFF ∷ codes "a") ≡ (Blank 0xFEFF ∷ [], [], true, codes "a")
unfolding is_white_space is_line_terminator encode
byte_order_mark = refl

-- no shebang stands behind a space
no_shebang : read start (codes " #!x") ≡ (Blank 32 ∷ [], [], true, codes "#!x")
unfolding is_white_space is_line_terminator encode
no_shebang = refl

-- Comments

two_comments : read later (codes " /*a*/ //b") ≡ (Blank 32 ∷ BlockComment (codes "a") ∷ Blank 32 ∷ LineComment (codes "b") ∷ [], [], false, [])
unfolding is_white_space is_line_terminator encode
two_comments = refl

before_plus : read later (codes "/*x*/+b") ≡ (BlockComment (codes "x") ∷ [], [], false, codes "+b")
unfolding is_white_space is_line_terminator encode
before_plus = refl

break_inside : read later (codes "/*\n*/b") ≡ (BlockComment (codes "\n") ∷ [], [], true, codes "b")
unfolding is_white_space is_line_terminator encode
break_inside = refl

-- `/*/` does not close itself
open_comment : read start (codes "/*/") ≡ (OpenComment (codes "/") ∷ [], fault_between Always UnterminatedBlockComment 0 3 ∷ [], true, [])
unfolding is_white_space is_line_terminator encode
open_comment = refl

open_behind_space : read later (codes " /*x") ≡ (Blank 32 ∷ OpenComment (codes "x") ∷ [], fault_between Always UnterminatedBlockComment 1 4 ∷ [], false, [])
unfolding is_white_space is_line_terminator encode
open_behind_space = refl

-- an unclosed comment counts its bytes
open_wide : read later (codes "/*" ++ 0x20AC ∷ []) ≡ (OpenComment (0x20AC ∷ []) ∷ [], fault_between Always UnterminatedBlockComment 0 5 ∷ [], false, [])
unfolding is_white_space is_line_terminator encode
open_wide = refl

-- U+2028 ends a line comment
separated_line : read later (codes "//" ++ (replicate 32 97 ++ 0x2028 ∷ codes "b")) ≡ (LineComment (replicate 32 97) ∷ Blank 0x2028 ∷ [], [], true, codes "b")
unfolding is_white_space is_line_terminator encode
separated_line = refl

closed_late : read later (codes "/*" ++ (replicate 31 97 ++ codes "*/b")) ≡ (BlockComment (replicate 31 97) ∷ [], [], false, codes "b")
unfolding is_white_space is_line_terminator encode
closed_late = refl

-- HTML-like comments

html_closing : read later (codes "\n-->x\nb") ≡ (Blank 10 ∷ HtmlClosing (codes "x") ∷ Blank 10 ∷ [], fault_between Module LegacyCommentInModule 1 4 ∷ [], true, codes "b")
unfolding is_white_space is_line_terminator encode
html_closing = refl

-- where the flag does not stand, these are operators
no_closing : read later (codes " -->x") ≡ (Blank 32 ∷ [], [], false, codes "-->x")
unfolding is_white_space is_line_terminator encode
no_closing = refl

-- a line terminator in a comment sets the flag too
closing_behind_comment : read later (codes "/*\n*/-->x") ≡ (BlockComment (codes "\n") ∷ HtmlClosing (codes "x") ∷ [], fault_between Module LegacyCommentInModule 5 8 ∷ [], true, [])
unfolding is_white_space is_line_terminator encode
closing_behind_comment = refl

html_opening : read later (codes "<!--y\nz") ≡ (HtmlOpening (codes "y") ∷ Blank 10 ∷ [], fault_between Module LegacyCommentInModule 0 6 ∷ [], true, codes "z")
unfolding is_white_space is_line_terminator encode
html_opening = refl

no_opening_in_types : read types (codes "<!--y") ≡ ([], [], false, codes "<!--y")
unfolding is_white_space is_line_terminator encode
no_opening_in_types = refl

closing_in_types : read types (codes "\n-->x") ≡ (Blank 10 ∷ HtmlClosing (codes "x") ∷ [], fault_between Module LegacyCommentInModule 1 4 ∷ [], true, [])
unfolding is_white_space is_line_terminator encode
closing_in_types = refl

-- the fault of an opening comes after that of the block comment behind it
late_fault : read later (codes "<!--y\n/*z")
    ≡ (HtmlOpening (codes "y") ∷ Blank 10 ∷ OpenComment (codes "z") ∷ [], fault_between Always UnterminatedBlockComment 6 9 ∷ fault_between Module LegacyCommentInModule 0 9 ∷ [], true, [])
unfolding is_white_space is_line_terminator encode
late_fault = refl

-- and ends before the next that is no white space, line or block comment
opening_and_closing : read later (codes "<!--\n-->\n")
    ≡ (HtmlOpening [] ∷ Blank 10 ∷ HtmlClosing [] ∷ Blank 10 ∷ [], fault_between Module LegacyCommentInModule 0 5 ∷ fault_between Module LegacyCommentInModule 5 8 ∷ [], true, [])
unfolding is_white_space is_line_terminator encode
opening_and_closing = refl

-- Conflict markers

equals : read later (codes "\n=======\nb") ≡ (Blank 10 ∷ Marker 61 [] ∷ Blank 10 ∷ [], fault_between Always TS1185 1 8 ∷ [], true, codes "b")
unfolding is_white_space is_line_terminator encode
equals = refl

angles : read start (codes "\n<<<<<<< x\ny") ≡ (Blank 10 ∷ Marker 60 (codes " x") ∷ Blank 10 ∷ [], fault_between Always TS1185 1 8 ∷ [], true, codes "y")
unfolding is_white_space is_line_terminator encode
angles = refl

angles_without_space : read start (codes "\n<<<<<<<x") ≡ (Blank 10 ∷ [], [], true, codes "<<<<<<<x")
unfolding is_white_space is_line_terminator encode
angles_without_space = refl

angles_in_types : read types (codes "\n<<<<<<< x\ny") ≡ (Blank 10 ∷ [], [], true, codes "<<<<<<< x\ny")
unfolding is_white_space is_line_terminator encode
angles_in_types = refl

equals_in_types : read types (codes "\n=======") ≡ (Blank 10 ∷ Marker 61 [] ∷ [], fault_between Always TS1185 1 8 ∷ [], true, [])
unfolding is_white_space is_line_terminator encode
equals_in_types = refl

flag_needed : read later (codes " =======") ≡ (Blank 32 ∷ [], [], false, codes "=======")
unfolding is_white_space is_line_terminator encode
flag_needed = refl

-- bars are no element of a gap
bars : read start (codes "\n||||||| base\ny") ≡ (Blank 10 ∷ [], [], true, codes "||||||| base\ny")
unfolding is_white_space is_line_terminator encode
bars = refl

-- Kept space, and the text of a template

kept_space : read (kept true) (codes " a") ≡ ([], [], true, codes " a")
unfolding is_white_space is_line_terminator encode
kept_space = refl

kept_comment : read (kept true) (codes "//a") ≡ ([], [], true, codes "//a")
unfolding is_white_space is_line_terminator encode
kept_comment = refl

kept_html : read (kept false) (codes "<!--y\n a") ≡ (HtmlOpening (codes "y") ∷ Blank 10 ∷ Blank 32 ∷ [], fault_between Module LegacyCommentInModule 0 7 ∷ [], true, codes "a")
unfolding is_white_space is_line_terminator encode
kept_html = refl

kept_closing : read (kept false) (codes "-->y") ≡ ([], [], false, codes "-->y")
unfolding is_white_space is_line_terminator encode
kept_closing = refl

kept_marker : read (kept true) (codes "=======\na") ≡ (Marker 61 [] ∷ Blank 10 ∷ [], fault_between Always TS1185 0 7 ∷ [], true, codes "a")
unfolding is_white_space is_line_terminator encode
kept_marker = refl

in_template : read (templates false) (codes " <!--") ≡ ([], [], true, codes " <!--")
unfolding is_white_space is_line_terminator encode
in_template = refl

in_template_with_space : read (templates true) (codes "<!--") ≡ ([], [], true, codes "<!--")
unfolding is_white_space is_line_terminator encode
in_template_with_space = refl
