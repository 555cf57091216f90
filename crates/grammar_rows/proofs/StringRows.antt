-- Strings and escapes that were read by hand.
use Rattle.std.proofs.Common.{◌≡◌, ℕ, [], ◌∷◌, Ok, Err, refl}
use Rattle.std.specs.Prelude.{codes}
use Rattle.ecma_place.specs.Atom.{borrowed_atom, owned_atom}
use lib.Utf8.{encode}
use Rattle.ecma_place.specs.Character.{is_line_break, is_line_terminator}
use Rattle.ecma_token.specs.View.{ErrorView, KindView, plain_kind, bad_escape, plain_token}
use Rattle.ecma_token.specs.declared.error.SyntaxError.{LegacyOctal, UnterminatedStrLit, InvalidUnicodeEscape, InvalidStrEscape}
use Rattle.ecma_token.specs.declared.token.Token.{Str}
use Rattle.ecma_grammar.specs.declared.found.Blame.{Blame}
use Rattle.ecma_grammar.specs.declared.found.Blame.TheVariants.{Always, Strict}
use Rattle.ecma_grammar.specs.Found.{Fault, span_of}
use Rattle.ecma_grammar.specs.Strings.{string_literal, scanned_string}

abbrev error : KindView → ℕ → ℕ → ErrorView
error kind low high = record { kind = kind; span = span_of low high }

abbrev fault : Blame → KindView → ℕ → ℕ → Fault
fault blame kind low high = record { blame = blame; error = error kind low high }

-- `'ab'c`
closed : string_literal (codes "'ab'c") ≡ scanned_string (Ok (plain_token (Str (borrowed_atom (codes "ab")) (borrowed_atom (codes "'ab'"))))) [] (codes "'ab'")
unfolding is_line_break is_line_terminator encode
closed = refl

-- `'\400'`: a space and `0`; the legacy octal counts in strict code
octal : string_literal (codes "'\\400'") ≡ scanned_string (Ok (plain_token (Str (owned_atom (codes " 0")) (borrowed_atom (codes "'\\400'"))))) (fault Strict (plain_kind LegacyOctal) 1 3 ∷ []) (codes "'\\400'")
unfolding is_line_break is_line_terminator encode
octal = refl

-- `'\ud800'`: a surrogate is its spelling
surrogate : string_literal (codes "'\\ud800'") ≡ scanned_string (Ok (plain_token (Str (owned_atom (codes "\\ud800")) (borrowed_atom (codes "'\\ud800'"))))) [] (codes "'\\ud800'")
unfolding is_line_break is_line_terminator encode
surrogate = refl

-- `'\u{41'`: no closing brace
open_brace : string_literal (codes "'\\u{41'") ≡ scanned_string (Err (error (plain_kind InvalidUnicodeEscape) 1 6)) [] (codes "'\\u{41")
unfolding is_line_break is_line_terminator encode
open_brace = refl

-- `'\x4'`
short_hex : string_literal (codes "'\\x4'") ≡ scanned_string (Err (error (bad_escape (codes "2 hex characters")) 1 4)) [] (codes "'\\x4")
unfolding is_line_break is_line_terminator encode
short_hex = refl

-- a quote alone
unclosed : string_literal (codes "'") ≡ scanned_string (Ok (plain_token (Str (borrowed_atom []) (borrowed_atom (codes "'"))))) (fault Always (plain_kind UnterminatedStrLit) 0 1 ∷ []) (codes "'")
unfolding is_line_break is_line_terminator encode
unclosed = refl

-- `'a\`, CR LF, `b'`: a line goes on
continued : string_literal (codes "'a\\\r\nb'") ≡ scanned_string (Ok (plain_token (Str (owned_atom (codes "ab")) (borrowed_atom (codes "'a\\\r\nb'"))))) [] (codes "'a\\\r\nb'")
unfolding is_line_break is_line_terminator encode
continued = refl

-- a quote and a backslash alone
lone_backslash : string_literal (codes "'\\") ≡ scanned_string (Err (error (plain_kind InvalidStrEscape) 1 1)) [] (codes "'\\")
unfolding is_line_break is_line_terminator encode
lone_backslash = refl

-- a line feed ends the string
line_feed : string_literal (codes "'a\nb'") ≡ scanned_string (Ok (plain_token (Str (borrowed_atom (codes "a")) (borrowed_atom (codes "'a"))))) (fault Always (plain_kind UnterminatedStrLit) 0 2 ∷ []) (codes "'a")
unfolding is_line_break is_line_terminator encode
line_feed = refl

-- `'`, U+2028, `'`: a line separator stands in a string
line_separator : string_literal (39 ∷ 0x2028 ∷ 39 ∷ []) ≡ scanned_string (Ok (plain_token (Str (borrowed_atom (0xE2 ∷ 0x80 ∷ 0xA8 ∷ [])) (borrowed_atom (39 ∷ 0xE2 ∷ 0x80 ∷ 0xA8 ∷ 39 ∷ []))))) [] (39 ∷ 0x2028 ∷ 39 ∷ [])
unfolding is_line_break is_line_terminator encode
line_separator = refl

-- `'/ a`: a string without its quote reaches to the end
to_the_end : string_literal (codes "'/ a") ≡ scanned_string (Ok (plain_token (Str (borrowed_atom (codes "/ a")) (borrowed_atom (codes "'/ a"))))) (fault Always (plain_kind UnterminatedStrLit) 0 4 ∷ []) (codes "'/ a")
unfolding is_line_break is_line_terminator encode
to_the_end = refl

-- `"it's"`: the other quote stands for itself
other_quote : string_literal (codes "\"it's\"") ≡ scanned_string (Ok (plain_token (Str (borrowed_atom (codes "it's")) (borrowed_atom (codes "\"it's\""))))) [] (codes "\"it's\"")
unfolding is_line_break is_line_terminator encode
other_quote = refl

-- `'\1\x4'`: the fault before the refusal stays
fault_and_refusal : string_literal (codes "'\\1\\x4'") ≡ scanned_string (Err (error (bad_escape (codes "2 hex characters")) 3 6)) (fault Strict (plain_kind LegacyOctal) 1 3 ∷ []) (codes "'\\1\\x4")
unfolding is_line_break is_line_terminator encode
fault_and_refusal = refl
