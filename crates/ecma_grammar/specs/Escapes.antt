-- Escapes (ECMA-262 EscapeSequence, 12.9.4, with LegacyOctalEscapeSequence of Annex B; UnicodeEscapeSequence in names,
-- 12.7): what is written of one, and its value or why it is refused. Which spans refusals have is our own choice.
use Rattle.std.specs.Prelude.{◌≡◌, ℕ, ◌+◌, Bool, true, false, not, ◌&&◌, ◌==◌, nat_lt, nat_le, List, [], ◌∷◌, ◌++◌, codes, length, take, drop, Option, Some, None, Ok, Err, encode_utf8_all, if◌then◌else◌}
use Rattle.std.specs.Char.{is_digit}
use Rattle.std.specs.Str.Parse.{digits_value}
use Rattle.ecma_place.specs.Text.{Text}
use Rattle.ecma_place.specs.Atom.{AtomView, owned_atom}
use Rattle.ecma_place.specs.Character.{is_line_terminator}
use Rattle.ecma_token.specs.View.{KindView, ErrorView, plain_kind, bad_escape}
use Rattle.ecma_token.specs.declared.error.SyntaxError.{InvalidIdentChar, LegacyOctal, InvalidUnicodeEscape, InvalidStrEscape, ExpectedUnicodeEscape}
use Rattle.ecma_grammar.specs.declared.found.Blame.TheVariants.{Always, Strict}
use Rattle.ecma_grammar.specs.Found.{Fault, Scanned, error_over, error_at, span_of}
use Rattle.ecma_grammar.specs.Fronts.{front, after, next_is, next_passes, begins_with}

-- where an escape stands
pub data Use : Type 0 where
  InString : Use
  InTemplate : Use
  InWord : Use

pub data Escape : Type 0 where
  -- what is written, the value, which may be empty, and what is said of it
  Accepted : Text → Text → List Fault → Escape
  -- what is written up to where reading goes on, and why it is refused
  Refused : Text → ErrorView → Escape

abbrev pub escape_spelling : Escape → Text
escape_spelling (Accepted spelling value faults) = spelling
escape_spelling (Refused spelling error) = spelling

-- what it stands for
abbrev pub escape_value : Escape → Text
escape_value (Accepted spelling value faults) = value
escape_value (Refused spelling error) = []

-- what is said of it
abbrev pub escape_faults : Escape → List Fault
escape_faults (Accepted spelling value faults) = faults
escape_faults (Refused spelling error) = []

-- why it is refused, if it is
abbrev pub escape_refusal : Escape → Option ErrorView
escape_refusal (Accepted spelling value faults) = None
escape_refusal (Refused spelling error) = Some error

-- what is wanted where it does not stand
abbrev pub two_digits_wanted : KindView
two_digits_wanted = bad_escape (codes "2 hex characters")

abbrev pub four_digits_wanted : KindView
four_digits_wanted = bad_escape (codes "4 hex characters")

abbrev pub some_digits_wanted : KindView
some_digits_wanted = bad_escape (codes "1-6 hex characters")

abbrev pub code_point_wanted : KindView
code_point_wanted = bad_escape (codes "1-6 hex characters in the range 0 to 10FFFF.")

abbrev pub is_hex_digit : ℕ → Bool
is_hex_digit c = is_digit c 16

abbrev pub is_octal_digit : ℕ → Bool
is_octal_digit c = is_digit c 8

abbrev pub is_surrogate : ℕ → Bool
is_surrogate c = nat_le 0xD800 c && nat_le c 0xDFFF

-- what the character behind a backslash begins
pub data Lead : Type 0 where
  UnicodeLetter : Lead
  HexLetter : Lead
  OctalDigit : Lead
  LineEnd : Lead
  Single : Lead

abbrev pub lead : ℕ → Lead
lead c =
    if c == 117 then UnicodeLetter
    else (if c == 120 then HexLetter
    else (if is_octal_digit c then OctalDigit
    else (if is_line_terminator c then LineEnd
    else Single)))

-- `\b \t \n \v \f \r`, and any other character itself
abbrev pub single_value : ℕ → ℕ
single_value c =
    if c == 98 then 8
    else (if c == 116 then 9
    else (if c == 110 then 10
    else (if c == 118 then 11
    else (if c == 102 then 12
    else (if c == 114 then 13
    else c)))))

-- a line terminator behind a backslash; CR LF is one
abbrev pub line_end : ℕ → Text → Text
line_end c cs = if c == 13 && next_is 10 cs then codes "\r\n" else c ∷ []

-- Two hexadecimal digits

abbrev pub hex_escape : Text → Escape
hex_escape digits =
    if length digits == 2
    then Accepted (codes "\\x" ++ digits) (digits_value 16 digits ∷ []) []
    else Refused (codes "\\x" ++ digits) (error_over two_digits_wanted (2 + length digits))

-- Octal digits: one to three, while the value is below 256

abbrev pub octal_front : Text → Text
octal_front text = front is_octal_digit text

abbrev pub octal_digits : Text → Text
octal_digits text =
    if nat_lt (digits_value 8 (take 3 (octal_front text))) 256 then take 3 (octal_front text) else take 2 (octal_front text)

-- counts in strict code only; a template refuses it behind its first digit
abbrev pub legacy_escape : Use → ℕ → Text → Escape
legacy_escape InTemplate c digits = Refused (92 ∷ (c ∷ [])) (error_over (plain_kind LegacyOctal) 2)
legacy_escape within c digits =
    Accepted (92 ∷ digits) (digits_value 8 digits ∷ []) (record { blame = Strict; error = error_over (plain_kind LegacyOctal) 2 } ∷ [])

-- `\0` alone is the null character
abbrev pub octal_escape : Use → ℕ → Text → Escape
octal_escape within c cs =
    if c == 48 && not (next_passes is_octal_digit cs) then Accepted (codes "\\0") (0 ∷ []) [] else legacy_escape within c (octal_digits (c ∷ cs))

-- Code points

abbrev pub surrogate_faults : Use → ℕ → List Fault
surrogate_faults InWord n = record { blame = Always; error = error_over (plain_kind InvalidIdentChar) n } ∷ []
surrogate_faults within n = []

-- a surrogate is no character: its value is what is written of it
abbrev pub code_escape : Use → Text → ℕ → Escape
code_escape within spelling code =
    if is_surrogate code then Accepted spelling spelling (surrogate_faults within (length spelling)) else Accepted spelling (code ∷ []) []

-- a refusal behind n characters; in a word it reaches from the m-th on
abbrev pub unicode_refusal : Use → KindView → ℕ → ℕ → ErrorView
unicode_refusal InWord kind m n = record { kind = kind; span = span_of m n }
unicode_refusal within kind m n = error_over kind n

-- four hexadecimal digits
abbrev pub four_escape : Use → Text → Escape
four_escape within digits =
    if length digits == 4
    then code_escape within (codes "\\u" ++ digits) (digits_value 16 digits)
    else Refused (codes "\\u" ++ digits) (unicode_refusal within four_digits_wanted (2 + length digits) (2 + length digits))

abbrev pub no_digits : Use → Escape
no_digits within = Refused (codes "\\u{") (unicode_refusal within some_digits_wanted 3 3)

abbrev pub out_of_range : Use → Text → Escape
out_of_range within digits =
    Refused (codes "\\u{" ++ digits) (unicode_refusal within code_point_wanted (3 + length digits) (3 + length digits))

abbrev pub no_brace : Use → Text → Escape
no_brace within digits = Refused (codes "\\u{" ++ digits) (unicode_refusal within (plain_kind InvalidUnicodeEscape) 3 (3 + length digits))

-- one digit or more in braces, as many as there are, and what follows them
abbrev pub braced_escape : Use → Text → Text → Escape
braced_escape within [] rest = no_digits within
braced_escape within (d ∷ ds) rest =
    if nat_lt 0x10_FFFF (digits_value 16 (d ∷ ds)) then out_of_range within (d ∷ ds)
    else (if next_is 125 rest then code_escape within (codes "\\u{" ++ ((d ∷ ds) ++ codes "}")) (digits_value 16 (d ∷ ds))
    else no_brace within (d ∷ ds))

abbrev pub hex_front : Text → Text
hex_front text = front is_hex_digit text

abbrev pub unicode_escape : Use → Text → Escape
unicode_escape within text =
    if next_is 123 text
    then braced_escape within (hex_front (drop 1 text)) (after is_hex_digit (drop 1 text))
    else four_escape within (take 4 (hex_front text))

-- Any escape

-- a word has escapes of code points alone
abbrev pub escape_of : Use → Lead → ℕ → Text → Escape
escape_of within UnicodeLetter c cs = unicode_escape within cs
escape_of InWord lead c cs = Refused (92 ∷ []) (error_at (plain_kind ExpectedUnicodeEscape) 0)
escape_of within HexLetter c cs = hex_escape (take 2 (hex_front cs))
escape_of within OctalDigit c cs = octal_escape within c cs
escape_of within LineEnd c cs = Accepted (92 ∷ line_end c cs) [] []
escape_of within Single c cs = Accepted (92 ∷ (c ∷ [])) (single_value c ∷ []) []

-- a backslash that ends the text
abbrev pub bare : Use → Escape
bare InWord = Refused (92 ∷ []) (error_at (plain_kind ExpectedUnicodeEscape) 0)
bare within = Refused (92 ∷ []) (error_at (plain_kind InvalidStrEscape) 0)

-- the escape whose backslash stands before the text
abbrev pub escape_behind : Use → Text → Escape
escape_behind within [] = bare within
escape_behind within (c ∷ cs) = escape_of within (lead c) c cs

-- the escape with which a text begins
abbrev pub escape : Use → Text → Escape
escape within text = escape_behind within (drop 1 text)

-- The escape by itself

-- an empty value gives no text; any other is owned
abbrev pub value_atom : Text → Option AtomView
value_atom [] = None
value_atom (c ∷ cs) = Some (owned_atom (encode_utf8_all (c ∷ cs)))

abbrev pub found_escape : Escape → Scanned (Option AtomView)
found_escape (Accepted spelling value faults) = record { value = Ok (value_atom value); faults = faults; spelling = spelling; line_break = false }
found_escape (Refused spelling error) = record { value = Err error; faults = []; spelling = spelling; line_break = false }

-- what is found of the escape with which a text begins
abbrev pub scanned_escape : Use → Text → Scanned (Option AtomView)
scanned_escape within text = found_escape (escape within text)

-- Laws

-- What is written of an escape is a front of the text at its backslash.
abbrev pub EscapeIsFront : Type 0
EscapeIsFront = (within : Use) (text : Text) → begins_with (escape_spelling (escape within (92 ∷ text))) (92 ∷ text) ≡ true

-- An escape is settled by what is written of it and one character more.
abbrev pub EscapeIsSettled : Type 0
EscapeIsSettled =
    (within : Use) (text other : Text)
    → take (1 + length (escape_spelling (escape within text))) text ≡ take (1 + length (escape_spelling (escape within text))) other
    → escape within text ≡ escape within other
