-- Template text that was read by hand.
use Rattle.std.proofs.Common.{◌≡◌, ℕ, Bool, true, false, [], ◌∷◌, Ok, Err, refl}
use Rattle.std.specs.Prelude.{codes}
use lib.Utf8.{encode}
use Rattle.ecma_place.specs.Text.{Text}
use Rattle.ecma_place.specs.Atom.{AtomView, borrowed_atom, owned_atom}
use Rattle.ecma_place.specs.Character.{is_line_terminator}
use Rattle.ecma_token.specs.View.{TokenView, KindView, plain_kind, bad_escape, plain_token, refused_template}
use Rattle.ecma_token.specs.declared.error.SyntaxError.{LegacyOctal, UnterminatedTpl, InvalidUnicodeEscape}
use Rattle.ecma_token.specs.declared.token.Token.{BackQuote, DollarLBrace, Template', Ok'}
use Rattle.ecma_grammar.specs.Found.{FoundView, Scanned, scanned, span_of}
use Rattle.ecma_grammar.specs.Templates.{template_text, template_found}

-- a template text, what it means, its spelling, and whether it has a line break
abbrev text : AtomView → AtomView → Text → Bool → Scanned TokenView
text raw cooked spelling line_break = record { value = Ok (plain_token (Template' raw (Ok' cooked))); faults = []; spelling = spelling; line_break = line_break }

-- one that means what is written
abbrev verbatim : Text → Bool → Scanned TokenView
verbatim spelling line_break = text (borrowed_atom spelling) (borrowed_atom spelling) spelling line_break

abbrev refused : KindView → ℕ → ℕ → Text → Bool → Scanned TokenView
refused kind low high spelling line_break =
    record { value = Ok (refused_template (borrowed_atom spelling) kind (span_of low high)); faults = []; spelling = spelling; line_break = line_break }

-- text from the place n up to the end, in a template that was opened at the place `opened`
abbrev unterminated : ℕ → ℕ → ℕ → Bool → FoundView TokenView
unterminated opened n end line_break =
    record { value = Err (record { kind = plain_kind UnterminatedTpl; span = span_of opened end }); faults = []; extent = span_of n end; line_break = line_break }

-- a back quote, `a${b}c`, a back quote: the text `a`, the `${`, the text `c`, the back quote

before_brace : template_text false (codes "a${b}c`") ≡ verbatim (codes "a") false
unfolding is_line_terminator encode
before_brace = refl

brace : template_text true (codes "${b}c`") ≡ scanned (plain_token DollarLBrace) (codes "${")
unfolding is_line_terminator encode
brace = refl

behind_brace : template_text false (codes "c`") ≡ verbatim (codes "c") false
unfolding is_line_terminator encode
behind_brace = refl

closing : template_text true (codes "`") ≡ scanned (plain_token BackQuote) (codes "`")
unfolding is_line_terminator encode
closing = refl

-- empty text, between two back quotes and before `${`

empty : template_text false (codes "`") ≡ verbatim [] false
unfolding is_line_terminator encode
empty = refl

empty_at_brace : template_text false (codes "${`x`}`") ≡ verbatim [] false
unfolding is_line_terminator encode
empty_at_brace = refl

-- a back quote and a space
unclosed : template_found 0 1 (template_text false (codes " ")) ≡ unterminated 0 1 2 false
unfolding is_line_terminator encode
unclosed = refl

-- no back quote opened the template of `x`
unopened : template_found 0 0 (template_text false (codes "x")) ≡ unterminated 0 0 1 false
unfolding is_line_terminator encode
unopened = refl

-- `x` and a back quote
unopened_text : template_text false (codes "x`") ≡ verbatim (codes "x") false
unfolding is_line_terminator encode
unopened_text = refl

-- the text behind an expression counts from the back quote too
unclosed_later : template_found 0 5 (template_text false (codes "b")) ≡ unterminated 0 5 6 false
unfolding is_line_terminator encode
unclosed_later = refl

unclosed_lines : template_found 0 1 (template_text false (codes "a\n")) ≡ unterminated 0 1 3 true
unfolding is_line_terminator encode
unclosed_lines = refl

-- `\u{110000}`
out_of_range : template_text false (codes "\\u{110000}`") ≡ refused (bad_escape (codes "1-6 hex characters in the range 0 to 10FFFF.")) 0 9 (codes "\\u{110000}") false
unfolding is_line_terminator encode
out_of_range = refl

-- the same at its place: the token from 1 to 11, its error from 1 to 10
out_of_range_there : template_found 0 1 (template_text false (codes "\\u{110000}`")) ≡ record {
  value = Ok (refused_template (borrowed_atom (codes "\\u{110000}")) (bad_escape (codes "1-6 hex characters in the range 0 to 10FFFF.")) (span_of 1 10));
  faults = [];
  extent = span_of 1 11;
  line_break = false;
}
unfolding is_line_terminator encode
out_of_range_there = refl

-- lines

line_feed : template_text false (codes "a\nb`") ≡ verbatim (codes "a\nb") true
unfolding is_line_terminator encode
line_feed = refl

two_characters : template_text false (codes "a\r\nb`") ≡ text (borrowed_atom (codes "a\r\nb")) (owned_atom (codes "a\nb")) (codes "a\r\nb") true
unfolding is_line_terminator encode
two_characters = refl

carriage_return : template_text false (codes "\ra`") ≡ text (borrowed_atom (codes "\ra")) (owned_atom (codes "\na")) (codes "\ra") true
unfolding is_line_terminator encode
carriage_return = refl

line_separator : template_text false (0x2028 ∷ codes "`") ≡ text (borrowed_atom (0xE2 ∷ 0x80 ∷ 0xA8 ∷ [])) (borrowed_atom (0xE2 ∷ 0x80 ∷ 0xA8 ∷ [])) (0x2028 ∷ []) true
unfolding is_line_terminator encode
line_separator = refl

-- a line terminator of an escape is no line break
continued : template_text false (codes "\\\r\na`") ≡ text (borrowed_atom (codes "\\\r\na")) (owned_atom (codes "a")) (codes "\\\r\na") false
unfolding is_line_terminator encode
continued = refl

-- the line terminator behind a refused escape is a piece of its own
refused_before_line : template_text false (codes "\\x4\n`") ≡ refused (bad_escape (codes "2 hex characters")) 0 3 (codes "\\x4\n") true
unfolding is_line_terminator encode
refused_before_line = refl

-- escapes

legacy : template_text false (codes "a\\12`") ≡ refused (plain_kind LegacyOctal) 1 3 (codes "a\\12") false
unfolding is_line_terminator encode
legacy = refl

null : template_text false (codes "\\0`") ≡ text (borrowed_atom (codes "\\0")) (owned_atom (0 ∷ [])) (codes "\\0") false
unfolding is_line_terminator encode
null = refl

eight : template_text false (codes "\\8`") ≡ text (borrowed_atom (codes "\\8")) (owned_atom (codes "8")) (codes "\\8") false
unfolding is_line_terminator encode
eight = refl

-- the last refusal stays
two_refusals : template_text false (codes "\\x\\u{41 `") ≡ refused (plain_kind InvalidUnicodeEscape) 2 7 (codes "\\x\\u{41 ") false
unfolding is_line_terminator encode
two_refusals = refl

quoted_mark : template_text false (codes "\\`$`") ≡ text (borrowed_atom (codes "\\`$")) (owned_atom (codes "`$")) (codes "\\`$") false
unfolding is_line_terminator encode
quoted_mark = refl

-- a refused escape, and then the end
lone_backslash : template_found 0 1 (template_text false (codes "\\")) ≡ unterminated 0 1 2 false
unfolding is_line_terminator encode
lone_backslash = refl
