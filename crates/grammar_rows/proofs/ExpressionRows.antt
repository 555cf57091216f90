-- Regular expressions that were read by hand.
use Rattle.std.proofs.Common.{◌≡◌, ℕ, false, List, [], ◌∷◌, ◌++◌, Ok, Err, refl}
use Rattle.std.specs.Prelude.{codes}
use lib.Utf8.{encode}
use Rattle.ecma_place.specs.Text.{Text}
use Rattle.ecma_place.specs.Atom.{borrowed_atom, owned_atom}
use Rattle.ecma_place.specs.Character.{is_ident_start, is_ident_part, is_line_terminator}
use Rattle.ecma_token.specs.View.{TokenView, KindView, plain_kind, bad_escape, plain_token}
use Rattle.ecma_token.specs.declared.error.SyntaxError.{SyntaxError, ExpectedUnicodeEscape, InvalidIdentChar, UnterminatedRegExp}
use Rattle.ecma_token.specs.declared.token.Token.{Token, Regex}
use Rattle.ecma_grammar.specs.declared.found.Blame.TheVariants.{Always}
use Rattle.ecma_grammar.specs.Found.{Fault, Scanned, span_of}
use Rattle.ecma_grammar.specs.Expressions.{regular_expression}

-- an expression that is read, its faults, and how it is written
abbrev read : Token → List Fault → Text → Scanned TokenView
read token faults spelling = record { value = Ok (plain_token token); faults = faults; spelling = spelling; line_break = false }

-- one that is refused, and from where to where
abbrev refused : KindView → ℕ → ℕ → Text → Scanned TokenView
refused kind low high spelling = record { value = Err (record { kind = kind; span = span_of low high }); faults = []; spelling = spelling; line_break = false }

abbrev always : SyntaxError → ℕ → ℕ → Fault
always kind low high = record { blame = Always; error = record { kind = plain_kind kind; span = span_of low high } }

-- `/b/g`
flagged : regular_expression (codes "/b/g") ≡ read (Regex (borrowed_atom (codes "b")) (borrowed_atom (codes "g"))) [] (codes "/b/g")
unfolding encode is_ident_start is_ident_part is_line_terminator
flagged = refl

-- `/a/`
alone : regular_expression (codes "/a/") ≡ read (Regex (borrowed_atom (codes "a")) (borrowed_atom [])) [] (codes "/a/")
unfolding encode is_ident_start is_ident_part is_line_terminator
alone = refl

-- a quote has no meaning in an expression
quote : regular_expression (codes "/'/ a") ≡ read (Regex (borrowed_atom (codes "'")) (borrowed_atom [])) [] (codes "/'/")
unfolding encode is_ident_start is_ident_part is_line_terminator
quote = refl

-- a flag that is written with an escape
escaped_flag : regular_expression (codes "/x/g\\u0069") ≡ read (Regex (borrowed_atom (codes "x")) (owned_atom (codes "gi"))) [] (codes "/x/g\\u0069")
unfolding encode is_ident_start is_ident_part is_line_terminator
escaped_flag = refl

-- `/b` and a line feed
unterminated : regular_expression (codes "/b\n") ≡ refused (plain_kind UnterminatedRegExp) 0 2 (codes "/b")
unfolding encode is_ident_start is_ident_part is_line_terminator
unterminated = refl

-- a slash in a class
class_ : regular_expression (codes "/[/]/ a") ≡ read (Regex (borrowed_atom (codes "[/]")) (borrowed_atom [])) [] (codes "/[/]/")
unfolding encode is_ident_start is_ident_part is_line_terminator
class_ = refl

-- a bracket behind a backslash closes no class
class_escape : regular_expression (codes "/[\\]/]/") ≡ read (Regex (borrowed_atom (codes "[\\]/]")) (borrowed_atom [])) [] (codes "/[\\]/]/")
unfolding encode is_ident_start is_ident_part is_line_terminator
class_escape = refl

-- a class that nothing closes: the line is refused
open_class : regular_expression (codes "/[ab/\nc") ≡ refused (plain_kind UnterminatedRegExp) 0 5 (codes "/[ab/")
unfolding encode is_ident_start is_ident_part is_line_terminator
open_class = refl

-- a slash behind a backslash
quoted_slash : regular_expression (codes "/\\//") ≡ read (Regex (borrowed_atom (codes "\\/")) (borrowed_atom [])) [] (codes "/\\//")
unfolding encode is_ident_start is_ident_part is_line_terminator
quoted_slash = refl

-- a backslash at the end
quoted_end : regular_expression (codes "/a\\") ≡ refused (plain_kind UnterminatedRegExp) 0 3 (codes "/a\\")
unfolding encode is_ident_start is_ident_part is_line_terminator
quoted_end = refl

-- U+2028 behind a backslash
quoted_line : regular_expression (codes "/a\\" ++ (0x2028 ∷ codes "/")) ≡ refused (plain_kind UnterminatedRegExp) 0 3 (codes "/a\\")
unfolding encode is_ident_start is_ident_part is_line_terminator
quoted_line = refl

-- two slashes
nothing : regular_expression (codes "//") ≡ read (Regex (borrowed_atom []) (borrowed_atom [])) [] (codes "//")
unfolding encode is_ident_start is_ident_part is_line_terminator
nothing = refl

-- `/]/`
bracket : regular_expression (codes "/]/") ≡ read (Regex (borrowed_atom (codes "]")) (borrowed_atom [])) [] (codes "/]/")
unfolding encode is_ident_start is_ident_part is_line_terminator
bracket = refl

-- `/=/`, which is read as `/=` at first
equals : regular_expression (codes "/=/") ≡ read (Regex (borrowed_atom (codes "=")) (borrowed_atom [])) [] (codes "/=/")
unfolding encode is_ident_start is_ident_part is_line_terminator
equals = refl

-- a backslash begins no flags
no_flags : regular_expression (codes "/a/\\u0067") ≡ read (Regex (borrowed_atom (codes "a")) (borrowed_atom [])) [] (codes "/a/")
unfolding encode is_ident_start is_ident_part is_line_terminator
no_flags = refl

-- braces without digits in the flags
refused_flag : regular_expression (codes "/a/g\\u{}") ≡ refused (bad_escape (codes "1-6 hex characters")) 7 7 (codes "/a/g\\u{")
unfolding encode is_ident_start is_ident_part is_line_terminator
refused_flag = refl

-- a backslash without `u` in the flags
no_letter : regular_expression (codes "/a/g\\x") ≡ refused (plain_kind ExpectedUnicodeEscape) 4 4 (codes "/a/g\\")
unfolding encode is_ident_start is_ident_part is_line_terminator
no_letter = refl

-- a space that is written with an escape stays, with a fault
odd_flag : regular_expression (codes "/a/g\\u0020") ≡ read (Regex (borrowed_atom (codes "a")) (owned_atom (codes "g "))) (always InvalidIdentChar 4 10 ∷ []) (codes "/a/g\\u0020")
unfolding encode is_ident_start is_ident_part is_line_terminator
odd_flag = refl

-- a reserved word is asked about nowhere
reserved_flag : regular_expression (codes "/a/i\\u0066") ≡ read (Regex (borrowed_atom (codes "a")) (owned_atom (codes "if"))) [] (codes "/a/i\\u0066")
unfolding encode is_ident_start is_ident_part is_line_terminator
reserved_flag = refl
