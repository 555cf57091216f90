-- What the reader of escapes answers, and the escape that it stands for.
use Rattle.std.specs.Prelude.{ℕ, Bool, true, false, [], ◌∷◌, length, take}
use Rattle.std.specs.Char.{is_digit}
use Rattle.ecma_place.specs.Text.{Text}
use Rattle.ecma_token.specs.View.{KindView, ErrorView, plain_kind}
use Rattle.ecma_token.specs.declared.error.SyntaxError.{LegacyOctal, InvalidUnicodeEscape, InvalidStrEscape, ExpectedUnicodeEscape}
use Rattle.ecma_escape.specs.declared.escape.Use.{Use}
use Rattle.ecma_escape.specs.declared.escape.Use.TheVariants as place
use Rattle.ecma_escape.specs.declared.escape.Refusal.{Refusal}
use Rattle.ecma_escape.specs.declared.escape.Refusal.TheVariants as because
use Rattle.ecma_escape.specs.declared.escape.Meaning.{Meaning}
use Rattle.ecma_escape.specs.declared.escape.Meaning.TheVariants as answer
use Rattle.ecma_grammar.specs.declared.found.Blame.TheVariants.{Strict}
use Rattle.ecma_grammar.specs.Found.{error_over, error_at}
use Rattle.ecma_grammar.specs.Fronts.{front, next_is}
use Rattle.ecma_grammar.specs.Escapes as escapes

-- a backslash stands at the front
abbrev pub opens_escape : Text → Bool
opens_escape text = next_is 92 text

abbrev pub use_of : Use → escapes.Use
use_of place.InString = escapes.InString
use_of place.InTemplate = escapes.InTemplate
use_of place.InWord = escapes.InWord

abbrev pub is_word : Use → Bool
is_word place.InWord = true
is_word within = false

abbrev pub is_digit_in : ℕ → ℕ → Bool
is_digit_in radix c = is_digit c radix

-- the digits with which a text begins, but no more than n
abbrev pub digit_front : ℕ → ℕ → Text → Text
digit_front radix n text = take n (front (is_digit_in radix) text)

-- what is wrong
abbrev pub refusal_kind : Refusal → KindView
refusal_kind because.TwoDigits = escapes.two_digits_wanted
refusal_kind because.FourDigits = escapes.four_digits_wanted
refusal_kind because.NoDigits = escapes.some_digits_wanted
refusal_kind because.OutOfRange = escapes.code_point_wanted
refusal_kind because.NoBrace = plain_kind InvalidUnicodeEscape
refusal_kind because.NoCodePoint = plain_kind ExpectedUnicodeEscape
refusal_kind because.AtEnd = plain_kind InvalidStrEscape
refusal_kind because.Octal = plain_kind LegacyOctal

-- the error of an escape that is refused behind n characters
abbrev pub refusal_error : escapes.Use → Refusal → ℕ → ErrorView
refusal_error within because.TwoDigits n = error_over escapes.two_digits_wanted n
refusal_error within because.FourDigits n = escapes.unicode_refusal within escapes.four_digits_wanted n n
refusal_error within because.NoDigits n = escapes.unicode_refusal within escapes.some_digits_wanted n n
refusal_error within because.OutOfRange n = escapes.unicode_refusal within escapes.code_point_wanted n n
refusal_error within because.NoBrace n = escapes.unicode_refusal within (plain_kind InvalidUnicodeEscape) 3 n
refusal_error within because.NoCodePoint n = error_at (plain_kind ExpectedUnicodeEscape) 0
refusal_error within because.AtEnd n = error_at (plain_kind InvalidStrEscape) 0
refusal_error within because.Octal n = error_over (plain_kind LegacyOctal) n

-- the escape that is written so and answered so
abbrev pub answered : escapes.Use → Text → Meaning → escapes.Escape
answered within spelling answer.Nothing = escapes.Accepted spelling [] []
answered within spelling (answer.Character c) = escapes.Accepted spelling (c ∷ []) []
answered within spelling (answer.Octal c) =
    escapes.Accepted spelling (c ∷ []) (record { blame = Strict; error = error_over (plain_kind LegacyOctal) 2 } ∷ [])
answered within spelling answer.Spelling = escapes.Accepted spelling spelling (escapes.surrogate_faults within (length spelling))
answered within spelling (answer.Refused refusal) = escapes.Refused spelling (refusal_error within refusal (length spelling))
