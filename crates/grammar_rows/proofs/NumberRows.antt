-- Numbers that were read by hand.
use Rattle.std.proofs.Common.{◌≡◌, ℕ, ◌-◌, ◌^◌, true, false, List, [], ◌∷◌, Some, None, Ok, Err, refl}
use Rattle.std.specs.Prelude.{codes}
use lib.Utf8.{encode}
use Rattle.ecma_place.specs.Text.{Text}
use Rattle.ecma_place.specs.Atom.{borrowed_atom, owned_atom}
use Rattle.ecma_place.specs.Character.{is_ident_start}
use Rattle.ecma_syntax.specs.declared.settings.NumberRule.TheVariants.{Crate, Standard}
use Rattle.ecma_token.specs.View.{TokenView, plain_kind, plain_token}
use Rattle.ecma_token.specs.declared.error.SyntaxError.{SyntaxError, ExpectedDigit, IdentAfterNum, LegacyDecimal, LegacyOctal, NumLitTerminatedWithExp, NumericSeparatorIsAllowedOnlyBetweenTwoDigits, TS1085}
use Rattle.ecma_token.specs.declared.token.Radix.TheVariants.{Binary, Octal, Decimal, Hex}
use Rattle.ecma_token.specs.declared.token.Token.{Token, Num, BigInt}
use Rattle.ecma_grammar.specs.declared.found.Blame.TheVariants.{Always, Strict}
use Rattle.ecma_grammar.specs.Found.{Fault, Scanned, span_of}
use Rattle.ecma_grammar.specs.Numbers.{number}

-- a number that is read, its faults, and how it is written
abbrev read : Token → List Fault → Text → Scanned TokenView
read token faults spelling = record { value = Ok (plain_token token); faults = faults; spelling = spelling; line_break = false }

-- a number that is refused, and from where to where
abbrev refused : SyntaxError → ℕ → ℕ → List Fault → Text → Scanned TokenView
refused kind low high faults spelling = record { value = Err (record { kind = plain_kind kind; span = span_of low high }); faults = faults; spelling = spelling; line_break = false }

abbrev always : SyntaxError → ℕ → ℕ → Fault
always kind low high = record { blame = Always; error = record { kind = plain_kind kind; span = span_of low high } }

abbrev separator : ℕ → ℕ → Fault
separator low high = always NumericSeparatorIsAllowedOnlyBetweenTwoDigits low high

-- over the first n bytes, in strict code
abbrev legacy : SyntaxError → ℕ → Fault
legacy kind n = record { blame = Strict; error = record { kind = plain_kind kind; span = span_of 0 n } }

-- one decimal number over the whole text, without a whole value and without fault
abbrev IsPlain : Text → Type 0
IsPlain text = number false Crate text ≡ read (Num (borrowed_atom text) Decimal (borrowed_atom text) None) [] text

-- a digit in front of a semicolon
one : number false Crate (codes "1;") ≡ read (Num (borrowed_atom (codes "1")) Decimal (borrowed_atom (codes "1")) (Some 1)) [] (codes "1")
unfolding encode is_ident_start
one = refl

-- `1__2`: the first separator has no digit behind it
two_separators : number false Crate (codes "1__2") ≡ read (Num (borrowed_atom (codes "1__2")) Decimal (owned_atom (codes "12")) (Some 12)) (separator 0 1 ∷ []) (codes "1__2")
unfolding encode is_ident_start
two_separators = refl

-- `3in`
name_behind : number false Crate (codes "3in") ≡ refused IdentAfterNum 1 1 [] (codes "3")
unfolding encode is_ident_start
name_behind = refl

-- `1e+`
sign_alone : number false Crate (codes "1e+") ≡ refused (ExpectedDigit Decimal) 3 3 [] (codes "1e+")
unfolding encode is_ident_start
sign_alone = refl

-- `0b12` is `0b1` and `2`
binary_then_digit : number false Crate (codes "0b12") ≡ read (Num (borrowed_atom (codes "0b1")) Binary (borrowed_atom (codes "1")) (Some 1)) [] (codes "0b1")
unfolding encode is_ident_start
binary_then_digit = refl

-- and the latter
digit_behind_binary : number false Crate (codes "2") ≡ read (Num (borrowed_atom (codes "2")) Decimal (borrowed_atom (codes "2")) (Some 2)) [] (codes "2")
unfolding encode is_ident_start
digit_behind_binary = refl

-- `0b1 2`
binary_apart : number false Crate (codes "0b1 2") ≡ read (Num (borrowed_atom (codes "0b1")) Binary (borrowed_atom (codes "1")) (Some 1)) [] (codes "0b1")
unfolding encode is_ident_start
binary_apart = refl

-- `1na`: nothing is asked behind a big integer
name_behind_big : number false Crate (codes "1na") ≡ read (BigInt (borrowed_atom (codes "1n")) Decimal (borrowed_atom (codes "1"))) [] (codes "1n")
unfolding encode is_ident_start
name_behind_big = refl

-- `1n2`
digit_behind_big : number false Crate (codes "1n2") ≡ read (BigInt (borrowed_atom (codes "1n")) Decimal (borrowed_atom (codes "1"))) [] (codes "1n")
unfolding encode is_ident_start
digit_behind_big = refl

-- `000`
zeros : number false Crate (codes "000") ≡ read (Num (borrowed_atom (codes "000")) Octal (borrowed_atom (codes "000")) (Some 0)) (legacy LegacyOctal 3 ∷ []) (codes "000")
unfolding encode is_ident_start
zeros = refl

-- `08.1`
legacy_with_point : number false Crate (codes "08.1") ≡ read (Num (borrowed_atom (codes "08.1")) Decimal (borrowed_atom (codes "08.1")) None) (legacy LegacyDecimal 2 ∷ []) (codes "08.1")
unfolding encode is_ident_start
legacy_with_point = refl

-- `010n` is decimal
legacy_big : number false Crate (codes "010n") ≡ read (BigInt (borrowed_atom (codes "010n")) Decimal (borrowed_atom (codes "010"))) [] (codes "010n")
unfolding encode is_ident_start
legacy_big = refl

-- `.5e1`
point_and_exponent : number false Crate (codes ".5e1") ≡ read (Num (borrowed_atom (codes ".5e1")) Decimal (borrowed_atom (codes ".5e1")) None) [] (codes ".5e1")
unfolding encode is_ident_start
point_and_exponent = refl

-- `0x`
bare_prefix : number false Crate (codes "0x") ≡ refused (ExpectedDigit Hex) 2 2 [] (codes "0x")
unfolding encode is_ident_start
bare_prefix = refl

-- `1._5`
separator_behind_point : number false Crate (codes "1._5") ≡ read (Num (borrowed_atom (codes "1._5")) Decimal (owned_atom (codes "1.5")) None) (separator 2 2 ∷ []) (codes "1._5")
unfolding encode is_ident_start
separator_behind_point = refl

-- `1_n`
separator_before_n : number false Crate (codes "1_n") ≡ read (BigInt (borrowed_atom (codes "1_n")) Decimal (owned_atom (codes "1"))) (separator 0 1 ∷ []) (codes "1_n")
unfolding encode is_ident_start
separator_before_n = refl

-- `0xFn`
hexadecimal_big : number false Crate (codes "0xFn") ≡ read (BigInt (borrowed_atom (codes "0xFn")) Hex (borrowed_atom (codes "F"))) [] (codes "0xFn")
unfolding encode is_ident_start
hexadecimal_big = refl

-- `1e5n`
n_behind_exponent : number false Crate (codes "1e5n") ≡ refused IdentAfterNum 3 3 [] (codes "1e5")
unfolding encode is_ident_start
n_behind_exponent = refl

-- 2 to the 128th less one has a whole value
largest : number false Crate (codes "340282366920938463463374607431768211455") ≡ read (Num (borrowed_atom (codes "340282366920938463463374607431768211455")) Decimal (borrowed_atom (codes "340282366920938463463374607431768211455")) (Some (2 ^ 128 - 1))) [] (codes "340282366920938463463374607431768211455")
unfolding encode is_ident_start
largest = refl

-- and the next number has none
too_large : number false Crate (codes "340282366920938463463374607431768211456") ≡ read (Num (borrowed_atom (codes "340282366920938463463374607431768211456")) Decimal (borrowed_atom (codes "340282366920938463463374607431768211456")) None) [] (codes "340282366920938463463374607431768211456")
unfolding encode is_ident_start
too_large = refl

-- `012`, told of as TypeScript does
under_typescript : number true Crate (codes "012") ≡ read (Num (borrowed_atom (codes "012")) Octal (borrowed_atom (codes "012")) (Some 10)) (always TS1085 0 3 ∷ legacy LegacyOctal 3 ∷ []) (codes "012")
unfolding encode is_ident_start
under_typescript = refl

-- `.0`
no_digit_first : IsPlain (codes ".0")
unfolding encode is_ident_start
no_digit_first = refl

-- `0e8`
zero_exponent : IsPlain (codes "0e8")
unfolding encode is_ident_start
zero_exponent = refl

-- `.8e1`
point_first_exponent : IsPlain (codes ".8e1")
unfolding encode is_ident_start
point_first_exponent = refl

-- `0.8e1`
zero_point_exponent : IsPlain (codes "0.8e1")
unfolding encode is_ident_start
zero_point_exponent = refl

-- `1.18e1`
point_exponent : IsPlain (codes "1.18e1")
unfolding encode is_ident_start
point_exponent = refl

-- `9.09`
plain_point : IsPlain (codes "9.09")
unfolding encode is_ident_start
plain_point = refl

-- `1e30`
plain_exponent : IsPlain (codes "1e30")
unfolding encode is_ident_start
plain_exponent = refl

-- `9.671406556917009e+24`
signed_exponent : IsPlain (codes "9.671406556917009e+24")
unfolding encode is_ident_start
signed_exponent = refl

-- `34028234663852886e22`
long_exponent : IsPlain (codes "34028234663852886e22")
unfolding encode is_ident_start
long_exponent = refl

-- `0.e-1`
empty_fraction : IsPlain (codes "0.e-1")
unfolding encode is_ident_start
empty_fraction = refl

-- `0o73`
octal : number false Crate (codes "0o73") ≡ read (Num (borrowed_atom (codes "0o73")) Octal (borrowed_atom (codes "73")) (Some 59)) [] (codes "0o73")
unfolding encode is_ident_start
octal = refl

-- `1_000`
thousand : number false Crate (codes "1_000") ≡ read (Num (borrowed_atom (codes "1_000")) Decimal (owned_atom (codes "1000")) (Some 1000)) [] (codes "1_000")
unfolding encode is_ident_start
thousand = refl

-- `0xAE_BE_CE`
separated_hexadecimal : number false Crate (codes "0xAE_BE_CE") ≡ read (Num (borrowed_atom (codes "0xAE_BE_CE")) Hex (owned_atom (codes "AEBECE")) (Some 11452110)) [] (codes "0xAE_BE_CE")
unfolding encode is_ident_start
separated_hexadecimal = refl

-- `08`
legacy_decimal : number false Crate (codes "08") ≡ read (Num (borrowed_atom (codes "08")) Decimal (borrowed_atom (codes "08")) (Some 8)) (legacy LegacyDecimal 2 ∷ []) (codes "08")
unfolding encode is_ident_start
legacy_decimal = refl

-- `08e1`
legacy_decimal_exponent : number false Crate (codes "08e1") ≡ read (Num (borrowed_atom (codes "08e1")) Decimal (borrowed_atom (codes "08e1")) None) (legacy LegacyDecimal 2 ∷ []) (codes "08e1")
unfolding encode is_ident_start
legacy_decimal_exponent = refl

-- `08.8e1`
legacy_decimal_whole : number false Crate (codes "08.8e1") ≡ read (Num (borrowed_atom (codes "08.8e1")) Decimal (borrowed_atom (codes "08.8e1")) None) (legacy LegacyDecimal 2 ∷ []) (codes "08.8e1")
unfolding encode is_ident_start
legacy_decimal_whole = refl

-- `01`
legacy_octal : number false Crate (codes "01") ≡ read (Num (borrowed_atom (codes "01")) Octal (borrowed_atom (codes "01")) (Some 1)) (legacy LegacyOctal 2 ∷ []) (codes "01")
unfolding encode is_ident_start
legacy_octal = refl

-- `0012`
legacy_octal_zeros : number false Crate (codes "0012") ≡ read (Num (borrowed_atom (codes "0012")) Octal (borrowed_atom (codes "0012")) (Some 10)) (legacy LegacyOctal 4 ∷ []) (codes "0012")
unfolding encode is_ident_start
legacy_octal_zeros = refl

-- `00e1`: a legacy octal ends where its run ends
octal_then_mark : number false Crate (codes "00e1") ≡ refused IdentAfterNum 2 2 [] (codes "00")
unfolding encode is_ident_start
octal_then_mark = refl

-- `00.0` is `00` and `.0`
zeros_then_point : number false Crate (codes "00.0") ≡ read (Num (borrowed_atom (codes "00")) Octal (borrowed_atom (codes "00")) (Some 0)) (legacy LegacyOctal 2 ∷ []) (codes "00")
unfolding encode is_ident_start
zeros_then_point = refl

-- `01.8e1` is `01` and `.8e1`
octal_then_point : number false Crate (codes "01.8e1") ≡ read (Num (borrowed_atom (codes "01")) Octal (borrowed_atom (codes "01")) (Some 1)) (legacy LegacyOctal 2 ∷ []) (codes "01")
unfolding encode is_ident_start
octal_then_point = refl

-- `012e1`
octal_then_exponent : number false Crate (codes "012e1") ≡ refused IdentAfterNum 3 3 [] (codes "012")
unfolding encode is_ident_start
octal_then_exponent = refl

-- a backslash behind a number is not seen
escape_behind : number false Crate (codes "3\\u0061") ≡ read (Num (borrowed_atom (codes "3")) Decimal (borrowed_atom (codes "3")) (Some 3)) [] (codes "3")
unfolding encode is_ident_start
escape_behind = refl

-- `0_1`
octal_separator : number false Crate (codes "0_1") ≡ read (Num (borrowed_atom (codes "0_1")) Octal (owned_atom (codes "01")) (Some 1)) (legacy LegacyOctal 3 ∷ []) (codes "0_1")
unfolding encode is_ident_start
octal_separator = refl

-- `08_1`
decimal_separator : number false Crate (codes "08_1") ≡ read (Num (borrowed_atom (codes "08_1")) Decimal (owned_atom (codes "081")) (Some 81)) (legacy LegacyDecimal 4 ∷ []) (codes "08_1")
unfolding encode is_ident_start
decimal_separator = refl

-- `1_0`
ten : number false Crate (codes "1_0") ≡ read (Num (borrowed_atom (codes "1_0")) Decimal (owned_atom (codes "10")) (Some 10)) [] (codes "1_0")
unfolding encode is_ident_start
ten = refl

-- `0_`
zero_separator : number false Crate (codes "0_") ≡ read (Num (borrowed_atom (codes "0_")) Octal (owned_atom (codes "0")) (Some 0)) (separator 0 1 ∷ legacy LegacyOctal 2 ∷ []) (codes "0_")
unfolding encode is_ident_start
zero_separator = refl

-- `1e`: the text ends behind the mark
mark_at_the_end : number false Crate (codes "1e") ≡ refused NumLitTerminatedWithExp 2 2 [] (codes "1e")
unfolding encode is_ident_start
mark_at_the_end = refl

-- By the standard's rule

-- `0b12`
standard_digit_behind_binary : number false Standard (codes "0b12") ≡ refused IdentAfterNum 3 3 [] (codes "0b1")
unfolding encode is_ident_start
standard_digit_behind_binary = refl

-- `0b1 2`
standard_binary_apart : number false Standard (codes "0b1 2") ≡ number false Crate (codes "0b1 2")
unfolding encode is_ident_start
standard_binary_apart = refl

-- `1na`
standard_name_behind_big : number false Standard (codes "1na") ≡ refused IdentAfterNum 2 2 [] (codes "1n")
unfolding encode is_ident_start
standard_name_behind_big = refl

-- `1n2`
standard_digit_behind_big : number false Standard (codes "1n2") ≡ refused IdentAfterNum 2 2 [] (codes "1n")
unfolding encode is_ident_start
standard_digit_behind_big = refl

-- a backslash behind a number is seen
standard_backslash_behind : number false Standard (codes "3\\u0061") ≡ refused IdentAfterNum 1 1 [] (codes "3")
unfolding encode is_ident_start
standard_backslash_behind = refl

-- `0_1`
standard_separator_in_octal : number false Standard (codes "0_1")
    ≡ read (Num (borrowed_atom (codes "0_1")) Octal (owned_atom (codes "01")) (Some 1)) (separator 0 1 ∷ (legacy LegacyOctal 3 ∷ [])) (codes "0_1")
unfolding encode is_ident_start
standard_separator_in_octal = refl

-- `08_1`
standard_separator_in_legacy : number false Standard (codes "08_1")
    ≡ read (Num (borrowed_atom (codes "08_1")) Decimal (owned_atom (codes "081")) (Some 81)) (separator 0 2 ∷ (legacy LegacyDecimal 4 ∷ [])) (codes "08_1")
unfolding encode is_ident_start
standard_separator_in_legacy = refl

-- `1_0`
standard_separator_between : number false Standard (codes "1_0") ≡ read (Num (borrowed_atom (codes "1_0")) Decimal (owned_atom (codes "10")) (Some 10)) [] (codes "1_0")
unfolding encode is_ident_start
standard_separator_between = refl

-- `0_`
standard_separator_at_the_end : number false Standard (codes "0_")
    ≡ read (Num (borrowed_atom (codes "0_")) Octal (owned_atom (codes "0")) (Some 0)) (separator 0 1 ∷ (legacy LegacyOctal 2 ∷ [])) (codes "0_")
unfolding encode is_ident_start
standard_separator_at_the_end = refl

-- `0_1n`
standard_separator_in_big : number false Standard (codes "0_1n") ≡ read (BigInt (borrowed_atom (codes "0_1n")) Decimal (owned_atom (codes "01"))) (separator 0 1 ∷ []) (codes "0_1n")
unfolding encode is_ident_start
standard_separator_in_big = refl
