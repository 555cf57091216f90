-- Escapes that were read by hand.
use Rattle.std.proofs.Common.{◌≡◌, ℕ, false, [], ◌∷◌, Some, None, Ok, Err, refl}
use Rattle.std.specs.Prelude.{codes}
use Rattle.ecma_place.specs.Text.{Text}
use lib.Utf8.{encode}
use Rattle.ecma_place.specs.Atom.{owned_atom}
use Rattle.ecma_place.specs.Character.{is_line_terminator}
use Rattle.ecma_token.specs.View.{KindView, plain_kind, bad_escape}
use Rattle.ecma_token.specs.declared.error.SyntaxError.{InvalidIdentChar, LegacyOctal, InvalidUnicodeEscape, InvalidStrEscape, ExpectedUnicodeEscape}
use Rattle.ecma_grammar.specs.declared.found.Blame.{Blame}
use Rattle.ecma_grammar.specs.declared.found.Blame.TheVariants.{Always, Strict}
use Rattle.ecma_grammar.specs.Found.{Fault, scanned, span_of}
use Rattle.ecma_grammar.specs.Escapes.{InString, InTemplate, InWord, Escape, Accepted, Refused, escape, scanned_escape}

abbrev refused : Text → KindView → ℕ → ℕ → Escape
refused spelling kind low high = Refused spelling (record { kind = kind; span = span_of low high })

abbrev fault : Blame → KindView → ℕ → ℕ → Fault
fault blame kind low high = record { blame = blame; error = record { kind = kind; span = span_of low high } }

abbrev octal : Text → ℕ → Escape
octal spelling value = Accepted spelling (value ∷ []) (fault Strict (plain_kind LegacyOctal) 0 2 ∷ [])

-- one character

line_feed : escape InString (codes "\\nx") ≡ Accepted (codes "\\n") (10 ∷ []) []
unfolding is_line_terminator
line_feed = refl

carriage_return : escape InString (codes "\\rx") ≡ Accepted (codes "\\r") (13 ∷ []) []
unfolding is_line_terminator
carriage_return = refl

tab : escape InString (codes "\\tx") ≡ Accepted (codes "\\t") (9 ∷ []) []
unfolding is_line_terminator
tab = refl

backspace : escape InString (codes "\\bx") ≡ Accepted (codes "\\b") (8 ∷ []) []
unfolding is_line_terminator
backspace = refl

vertical_tab : escape InString (codes "\\vx") ≡ Accepted (codes "\\v") (11 ∷ []) []
unfolding is_line_terminator
vertical_tab = refl

form_feed : escape InString (codes "\\fx") ≡ Accepted (codes "\\f") (12 ∷ []) []
unfolding is_line_terminator
form_feed = refl

backslash : escape InString (codes "\\\\x") ≡ Accepted (codes "\\\\") (92 ∷ []) []
unfolding is_line_terminator
backslash = refl

eight : escape InString (codes "\\8x") ≡ Accepted (codes "\\8") (codes "8") []
unfolding is_line_terminator
eight = refl

nine_in_template : escape InTemplate (codes "\\9x") ≡ Accepted (codes "\\9") (codes "9") []
unfolding is_line_terminator
nine_in_template = refl

-- a line terminator

two_characters : escape InString (codes "\\\r\nx") ≡ Accepted (codes "\\\r\n") [] []
unfolding is_line_terminator
two_characters = refl

line_separator : escape InString (92 ∷ 0x2028 ∷ 10 ∷ []) ≡ Accepted (92 ∷ 0x2028 ∷ []) [] []
unfolding is_line_terminator
line_separator = refl

-- hexadecimal digits

two_digits : escape InString (codes "\\x41b") ≡ Accepted (codes "\\x41") (codes "A") []
unfolding is_line_terminator
two_digits = refl

no_digit : escape InString (codes "\\xg") ≡ refused (codes "\\x") (bad_escape (codes "2 hex characters")) 0 2
unfolding is_line_terminator
no_digit = refl

-- a separator is no digit
separator : escape InString (codes "\\x4_1") ≡ refused (codes "\\x4") (bad_escape (codes "2 hex characters")) 0 3
unfolding is_line_terminator
separator = refl

-- octal digits

null : escape InString (codes "\\0") ≡ Accepted (codes "\\0") (0 ∷ []) []
unfolding is_line_terminator
null = refl

null_before_eight : escape InTemplate (codes "\\08") ≡ Accepted (codes "\\0") (0 ∷ []) []
unfolding is_line_terminator
null_before_eight = refl

largest : escape InString (codes "\\3777") ≡ octal (codes "\\377") 255
unfolding is_line_terminator
largest = refl

too_large : escape InString (codes "\\400") ≡ octal (codes "\\40") 32
unfolding is_line_terminator
too_large = refl

one_digit : escape InString (codes "\\1") ≡ octal (codes "\\1") 1
unfolding is_line_terminator
one_digit = refl

zeros : escape InString (codes "\\000") ≡ octal (codes "\\000") 0
unfolding is_line_terminator
zeros = refl

octal_in_template : escape InTemplate (codes "\\12") ≡ refused (codes "\\1") (plain_kind LegacyOctal) 0 2
unfolding is_line_terminator
octal_in_template = refl

-- code points

four_digits : escape InString (codes "\\u00410") ≡ Accepted (codes "\\u0041") (codes "A") []
unfolding is_line_terminator
four_digits = refl

three_digits : escape InTemplate (codes "\\u004g") ≡ refused (codes "\\u004") (bad_escape (codes "4 hex characters")) 0 5
unfolding is_line_terminator
three_digits = refl

-- any number of digits in braces
long_braces : escape InString (codes "\\u{0000000010FFFF}") ≡ Accepted (codes "\\u{0000000010FFFF}") (0x10_FFFF ∷ []) []
unfolding is_line_terminator
long_braces = refl

long_surrogate : escape InString (codes "\\u{0000d800}") ≡ Accepted (codes "\\u{0000d800}") (codes "\\u{0000d800}") []
unfolding is_line_terminator
long_surrogate = refl

surrogate_in_word : escape InWord (codes "\\uDFFF") ≡ Accepted (codes "\\uDFFF") (codes "\\uDFFF") (fault Always (plain_kind InvalidIdentChar) 0 6 ∷ [])
unfolding is_line_terminator
surrogate_in_word = refl

no_digits : escape InString (codes "\\u{}") ≡ refused (codes "\\u{") (bad_escape (codes "1-6 hex characters")) 0 3
unfolding is_line_terminator
no_digits = refl

out_of_range : escape InString (codes "\\u{110000}") ≡ refused (codes "\\u{110000") (bad_escape (codes "1-6 hex characters in the range 0 to 10FFFF.")) 0 9
unfolding is_line_terminator
out_of_range = refl

-- out of range comes before the missing brace
out_of_range_first : escape InWord (codes "\\u{110000 ") ≡ refused (codes "\\u{110000") (bad_escape (codes "1-6 hex characters in the range 0 to 10FFFF.")) 9 9
unfolding is_line_terminator
out_of_range_first = refl

open_brace : escape InString (codes "\\u{41'") ≡ refused (codes "\\u{41") (plain_kind InvalidUnicodeEscape) 0 5
unfolding is_line_terminator
open_brace = refl

open_brace_in_word : escape InWord (codes "\\u{41'") ≡ refused (codes "\\u{41") (plain_kind InvalidUnicodeEscape) 3 5
unfolding is_line_terminator
open_brace_in_word = refl

-- a backslash alone

at_the_end : escape InString (codes "\\") ≡ refused (codes "\\") (plain_kind InvalidStrEscape) 0 0
at_the_end = refl

end_of_template : escape InTemplate (codes "\\") ≡ refused (codes "\\") (plain_kind InvalidStrEscape) 0 0
end_of_template = refl

end_of_word : escape InWord (codes "\\") ≡ refused (codes "\\") (plain_kind ExpectedUnicodeEscape) 0 0
end_of_word = refl

no_letter : escape InWord (codes "\\n") ≡ refused (codes "\\") (plain_kind ExpectedUnicodeEscape) 0 0
unfolding is_line_terminator
no_letter = refl

-- an escape by itself

alone : scanned_escape InString (codes "\\400") ≡ record { value = Ok (Some (owned_atom (codes " "))); faults = fault Strict (plain_kind LegacyOctal) 0 2 ∷ []; spelling = codes "\\40"; line_break = false }
unfolding is_line_terminator encode
alone = refl

nothing : scanned_escape InTemplate (codes "\\\na") ≡ scanned None (codes "\\\n")
unfolding is_line_terminator encode
nothing = refl

refused_alone : scanned_escape InTemplate (codes "\\400") ≡ record { value = Err (record { kind = plain_kind LegacyOctal; span = span_of 0 2 }); faults = []; spelling = codes "\\4"; line_break = false }
unfolding is_line_terminator encode
refused_alone = refl
