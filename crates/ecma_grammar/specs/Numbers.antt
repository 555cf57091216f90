-- Numbers (ECMA-262 NumericLiteral, 12.9.3, legacy octal and legacy decimal literals among them): named parts in a row,
-- and what is said of them. Which errors there are and which spans they have is our own choice, and so is what is read
-- where the standard has no number.
use Rattle.std.specs.Prelude.{◌≡◌, ◌<◌, ◌⊎◌, ⊤, ℕ, ◌+◌, ◌^◌, Bool, true, false, not, ◌&&◌, ◌||◌, ◌==◌, nat_lt, List, [], ◌∷◌, ◌++◌, map, filter, length, drop, Option, Some, None, option_map, Ok, Err, encode_utf8_all, if◌then◌else◌}
use Rattle.std.specs.Char.{is_digit}
use Rattle.std.specs.List.{list_all, list_any}
use Rattle.std.specs.Str.Parse.{digits_value}
use Rattle.ecma_place.specs.Text.{Text, byte_len}
use Rattle.ecma_place.specs.Atom.{AtomView, borrowed_atom, owned_atom}
use Rattle.ecma_place.specs.Character.{is_ident_start}
use Rattle.ecma_syntax.specs.declared.settings.NumberRule.{NumberRule}
use Rattle.ecma_syntax.specs.declared.settings.NumberRule.TheVariants.{Crate, Standard}
use Rattle.ecma_token.specs.View.{TokenView, ErrorView, plain_kind, plain_token}
use Rattle.ecma_token.specs.declared.error.SyntaxError.{ExpectedDigit, IdentAfterNum, LegacyDecimal, LegacyOctal, NumLitTerminatedWithExp, NumericSeparatorIsAllowedOnlyBetweenTwoDigits, TS1085}
use Rattle.ecma_token.specs.declared.token.Radix.{Radix}
use Rattle.ecma_token.specs.declared.token.Radix.TheVariants.{Binary, Octal, Decimal, Hex}
use Rattle.ecma_token.specs.declared.token.Token.{Num, BigInt}
use Rattle.ecma_grammar.specs.declared.found.Blame.TheVariants.{Always, Strict}
use Rattle.ecma_grammar.specs.declared.gap_mode.GapMode.{GapMode}
use Rattle.ecma_grammar.specs.Found.{Fault, Scanned, error_over, error_at, fault_behind, span_of}
use Rattle.ecma_grammar.specs.Fronts.{front, after, next_passes, next_is}
use Rattle.ecma_grammar.specs.Gaps.{element}
use Rattle.ecma_grammar.specs.Locality.{is_clean, separates, IsLocal}

-- Characters

abbrev pub base : Radix → ℕ
base Binary = 2
base Octal = 8
base Decimal = 10
base Hex = 16

-- a digit of the radix
abbrev pub digit : Radix → ℕ → Bool
digit radix c = is_digit c (base radix)

-- `_`
abbrev pub is_separator : ℕ → Bool
is_separator c = c == 95

-- a character of a run: a digit or a separator
abbrev pub in_run : Radix → ℕ → Bool
in_run radix c = digit radix c || is_separator c

-- `e` or `E`
abbrev pub is_exponent_mark : ℕ → Bool
is_exponent_mark c = c == 101 || c == 69

-- `+` or `-`
abbrev pub is_sign : ℕ → Bool
is_sign c = c == 43 || c == 45

-- a point and a digit begin the text
abbrev pub opens_fraction : Text → Bool
opens_fraction [] = false
opens_fraction (c ∷ cs) = c == 46 && next_passes (digit Decimal) cs

-- a number begins the text: a digit, or a point and a digit
abbrev pub opens_number : Text → Bool
opens_number [] = false
opens_number (c ∷ cs) = digit Decimal c || opens_fraction (c ∷ cs)

-- Parts

pub data Fraction : Type 0 where
  NoFraction : Fraction
  -- a point and a run, which may be empty
  Point : Text → Fraction

pub data Exponent : Type 0 where
  NoExponent : Exponent
  -- the mark, a sign or nothing, and a run
  Scaled : ℕ → Text → Text → Exponent

pub data Number : Type 0 where
  -- `0`, the letter of the radix, a run, and `n` or nothing
  Prefixed : Radix → ℕ → Text → Text → Number
  -- a decimal run and `n`
  BigRun : Text → Number
  -- a legacy octal: a run
  OctalRun : Text → Number
  -- a decimal run, which is empty where a point comes first, and what follows it
  DecimalRun : Text → Fraction → Exponent → Number

abbrev pub fraction_text : Fraction → Text
fraction_text NoFraction = []
fraction_text (Point run) = 46 ∷ run

abbrev pub exponent_text : Exponent → Text
exponent_text NoExponent = []
exponent_text (Scaled mark sign run) = mark ∷ (sign ++ run)

-- what is written of a number: its parts in a row
abbrev pub number_text : Number → Text
number_text (Prefixed radix letter run suffix) = 48 ∷ (letter ∷ (run ++ suffix))
number_text (BigRun run) = run ++ (110 ∷ [])
number_text (OctalRun run) = run
number_text (DecimalRun whole fraction exponent) = whole ++ (fraction_text fraction ++ exponent_text exponent)

-- Which parts begin a text

-- the radix that a letter behind `0` names
abbrev pub radix_of : ℕ → Option Radix
radix_of c =
    if c == 120 || c == 88 then Some Hex
    else (if c == 111 || c == 79 then Some Octal
    else (if c == 98 || c == 66 then Some Binary
    else None))

-- the radix, and the letter behind `0` that names it
abbrev pub prefix : Text → Option (Radix × ℕ)
prefix [] = None
prefix (c ∷ []) = None
prefix (c ∷ (letter ∷ cs)) = if c == 48 then option_map (λ radix. (radix, letter)) (radix_of letter) else None

-- as many characters of a run as there are
abbrev pub run_of : Radix → Text → Text
run_of radix text = front (in_run radix) text

abbrev pub behind_run : Radix → Text → Text
behind_run radix text = after (in_run radix) text

-- `n` follows a run with a digit
abbrev pub is_big : Radix → Text → Text → Bool
is_big radix run rest = list_any (digit radix) run && next_is 110 rest

abbrev pub suffix_of : Bool → Text
suffix_of true = 110 ∷ []
suffix_of false = []

-- a number with a prefix, by the text behind the prefix
abbrev pub prefixed_number : Radix → ℕ → Text → Number
prefixed_number radix letter text = Prefixed radix letter (run_of radix text) (suffix_of (is_big radix (run_of radix text) (behind_run radix text)))

-- a run longer than one character that begins with `0`
abbrev pub is_legacy : Text → Bool
is_legacy run = next_is 48 run && nat_lt 1 (length run)

-- a digit of ten that is none of eight
abbrev pub is_past_octal : ℕ → Bool
is_past_octal c = c == 56 || c == 57

-- a legacy run without `8` and `9`
abbrev pub is_octal_run : Text → Bool
is_octal_run run = is_legacy run && not (list_any is_past_octal run)

-- a point, where one comes next, and the run behind it
abbrev pub fraction : Text → Fraction
fraction text = if next_is 46 text then Point (run_of Decimal (drop 1 text)) else NoFraction

abbrev pub after_fraction : Text → Text
after_fraction text = drop (length (fraction_text (fraction text))) text

abbrev pub sign : Text → Text
sign [] = []
sign (c ∷ cs) = if is_sign c then c ∷ [] else []

-- a mark, where one comes next, a sign or nothing, and the run behind it
abbrev pub exponent : Text → Exponent
exponent [] = NoExponent
exponent (c ∷ cs) = if is_exponent_mark c then Scaled c (sign cs) (run_of Decimal (drop (length (sign cs)) cs)) else NoExponent

-- behind a decimal run, by whether `n` follows it and whether it is a legacy octal
abbrev pub decimal_of : Bool → Bool → Text → Text → Number
decimal_of true octal run rest = BigRun run
decimal_of false true run rest = OctalRun run
decimal_of false false run rest = DecimalRun run (fraction rest) (exponent (after_fraction rest))

abbrev pub decimal_number : Text → Text → Number
decimal_number run rest = decimal_of (is_big Decimal run rest) (is_octal_run run) run rest

abbrev pub number_behind : Option (Radix × ℕ) → Text → Number
number_behind (Some p) text = prefixed_number p.0 p.1 (drop 2 text)
number_behind None text = decimal_number (run_of Decimal text) (behind_run Decimal text)

-- the parts of the number with which a text begins
abbrev pub number_parts : Text → Number
number_parts text = number_behind (prefix text) text

-- What the rules ask: what each part is and means is the same by both

-- a character that may not stand right behind a number, big integer or not
abbrev pub may_not_follow : NumberRule → Bool → ℕ → Bool
may_not_follow Crate big c = not big && is_ident_start c
may_not_follow Standard big c = is_ident_start c || (digit Decimal c || c == 92)

-- a decimal run that begins a number may hold separators
abbrev pub may_hold_separators : NumberRule → Text → Bool
may_hold_separators Crate run = true
may_hold_separators Standard run = not (is_legacy run)

-- What is said of the parts

-- a separator before which no digit of the run came (`seen` says that one did), or behind which none comes next
abbrev pub is_faulty : Radix → Bool → ℕ → Text → Bool
is_faulty radix seen c next = is_separator c && not (seen && next_passes (digit radix) next)

-- whether a digit came, one character of a run further
abbrev pub seen_behind : Bool → ℕ → Bool
seen_behind seen c = seen || not (is_separator c)

-- how many bytes stand before each faulty separator, of a run that goes on behind n bytes; in one that may hold none each
-- is faulty
abbrev pub faulty_separators : Bool → Radix → Bool → ℕ → Text → List ℕ
faulty_separators allowed radix seen n [] = []
faulty_separators allowed radix seen n (c ∷ cs) =
    (if is_faulty radix (allowed && seen) c cs then n ∷ [] else []) ++ faulty_separators allowed radix (seen_behind seen c) (n + byte_len (c ∷ [])) cs

-- a faulty separator behind n bytes of its run; its error reaches from the run's start to it
abbrev pub separator_fault : ℕ → Fault
separator_fault n = record { blame = Always; error = error_over (plain_kind NumericSeparatorIsAllowedOnlyBetweenTwoDigits) n }

abbrev pub run_faults : Bool → Radix → Text → List Fault
run_faults allowed radix run = map separator_fault (faulty_separators allowed radix false 0 run)

-- what is said of the decimal run that begins a number
abbrev pub first_run_faults : NumberRule → Text → List Fault
first_run_faults rule run = run_faults (may_hold_separators rule run) Decimal run

-- what is said of a run that stands behind n bytes
abbrev pub run_faults_behind : ℕ → Radix → Text → List Fault
run_faults_behind n radix run = map (fault_behind n) (run_faults true radix run)

-- a legacy run with `8` or `9` counts in strict code only
abbrev pub legacy_faults : Text → List Fault
legacy_faults run = if is_legacy run then record { blame = Strict; error = error_over (plain_kind LegacyDecimal) (byte_len run) } ∷ [] else []

abbrev pub fraction_faults : ℕ → Fraction → List Fault
fraction_faults n NoFraction = []
fraction_faults n (Point run) = run_faults_behind (n + 1) Decimal run

abbrev pub exponent_faults : ℕ → Exponent → List Fault
exponent_faults n NoExponent = []
exponent_faults n (Scaled mark sign run) = run_faults_behind (n + byte_len (mark ∷ sign)) Decimal run

-- what is said of each part, in their order
abbrev pub part_faults : NumberRule → Number → List Fault
part_faults rule (Prefixed radix letter run suffix) = run_faults_behind 2 radix run
part_faults rule (BigRun run) = first_run_faults rule run
part_faults rule (OctalRun run) = first_run_faults rule run
part_faults rule (DecimalRun run fraction exponent) =
    first_run_faults rule run ++ (legacy_faults run ++ (fraction_faults (byte_len run) fraction ++ exponent_faults (byte_len (run ++ fraction_text fraction)) exponent))

-- what is said of a legacy octal that is not refused, as TypeScript does or not
abbrev pub octal_faults : Bool → Number → List Fault
octal_faults true (OctalRun run) =
    record { blame = Always; error = error_over (plain_kind TS1085) (byte_len run) } ∷ (record { blame = Strict; error = error_over (plain_kind LegacyOctal) (byte_len run) } ∷ [])
octal_faults false (OctalRun run) = record { blame = Strict; error = error_over (plain_kind LegacyOctal) (byte_len run) } ∷ []
octal_faults ts1085 number = []

-- Why a number is refused

-- a run without a digit, behind n bytes
abbrev pub digit_refusal : ℕ → Radix → Text → Option ErrorView
digit_refusal n radix run = if list_any (digit radix) run then None else Some (record { kind = plain_kind (ExpectedDigit radix); span = span_of n (n + byte_len run) })

-- the text ends right behind the mark, or no digit stands behind mark and sign
abbrev pub exponent_refusal : ℕ → Exponent → Text → Option ErrorView
exponent_refusal n NoExponent rest = None
exponent_refusal n (Scaled mark [] []) [] = Some (error_at (plain_kind NumLitTerminatedWithExp) (n + byte_len (mark ∷ [])))
exponent_refusal n (Scaled mark sign run) rest = digit_refusal (n + byte_len (mark ∷ sign)) Decimal run

abbrev pub part_refusal : Number → Text → Option ErrorView
part_refusal (Prefixed radix letter run suffix) rest = digit_refusal 2 radix run
part_refusal (DecimalRun run fraction exponent) rest = exponent_refusal (byte_len (run ++ fraction_text fraction)) exponent rest
part_refusal number rest = None

abbrev pub is_big_number : Number → Bool
is_big_number (Prefixed radix letter run []) = false
is_big_number (Prefixed radix letter run (c ∷ cs)) = true
is_big_number (BigRun run) = true
is_big_number number = false

-- what follows a number begins with a character that may not
abbrev pub next_refusal : NumberRule → Number → Text → Option ErrorView
next_refusal rule number rest =
    if next_passes (may_not_follow rule (is_big_number number)) rest then Some (error_at (plain_kind IdentAfterNum) (byte_len (number_text number))) else None

abbrev pub or_else : Option ErrorView → Option ErrorView → Option ErrorView
or_else (Some e) other = Some e
or_else None other = other

-- why a number is refused, by what follows it
abbrev pub refusal : NumberRule → Number → Text → Option ErrorView
refusal rule number rest = or_else (part_refusal number rest) (next_refusal rule number rest)

-- The token

-- the digits as they are written: the text without prefix and `n`
abbrev pub written_digits : Number → Text
written_digits (Prefixed radix letter run suffix) = run
written_digits (BigRun run) = run
written_digits (OctalRun run) = run
written_digits (DecimalRun run fraction exponent) = number_text (DecimalRun run fraction exponent)

abbrev pub without_separators : Text → Text
without_separators text = filter (λ c. not (is_separator c)) text

-- digits are owned only where a separator stands among them
abbrev pub digits_atom : Text → AtomView
digits_atom text =
    if list_any is_separator text then owned_atom (encode_utf8_all (without_separators text)) else borrowed_atom (encode_utf8_all text)

abbrev pub number_radix : Number → Radix
number_radix (Prefixed radix letter run suffix) = radix
number_radix (OctalRun run) = Octal
number_radix number = Decimal

-- the value of digits, where it fits 128 bits
abbrev pub fitting_value : Radix → Text → Option ℕ
fitting_value radix digits = if nat_lt (digits_value (base radix) digits) (2 ^ 128) then Some (digits_value (base radix) digits) else None

-- the whole value of a number that has neither point nor exponent
abbrev pub whole_value : Number → Option ℕ
whole_value (Prefixed radix letter run []) = fitting_value radix (without_separators run)
whole_value (Prefixed radix letter run (c ∷ cs)) = None
whole_value (BigRun run) = None
whole_value (OctalRun run) = fitting_value Octal (without_separators run)
whole_value (DecimalRun run NoFraction NoExponent) = fitting_value Decimal (without_separators run)
whole_value (DecimalRun run _ _) = None

abbrev pub raw_atom : Number → AtomView
raw_atom number = borrowed_atom (encode_utf8_all (number_text number))

abbrev pub token_of : Bool → Number → TokenView
token_of true number = plain_token (BigInt (raw_atom number) (number_radix number) (digits_atom (written_digits number)))
token_of false number = plain_token (Num (raw_atom number) (number_radix number) (digits_atom (written_digits number)) (whole_value number))

abbrev pub number_token : Number → TokenView
number_token number = token_of (is_big_number number) number

-- Numbers

-- a number that is refused or not
abbrev pub found_number : Bool → NumberRule → Number → Option ErrorView → Scanned TokenView
found_number ts1085 rule number (Some error) = record { value = Err error; faults = part_faults rule number; spelling = number_text number; line_break = false }
found_number ts1085 rule number None =
    record { value = Ok (number_token number); faults = part_faults rule number ++ octal_faults ts1085 number; spelling = number_text number; line_break = false }

-- what follows a number at the start of a text
abbrev pub behind_number : Number → Text → Text
behind_number number text = drop (length (number_text number)) text

-- the number with which a text begins, by a rule; the flag says that legacy octals are told of as TypeScript does
abbrev pub number : Bool → NumberRule → Text → Scanned TokenView
number ts1085 rule text = found_number ts1085 rule (number_parts text) (refusal rule (number_parts text) (behind_number (number_parts text) text))

-- The forms of the parts, whatever stands behind them

abbrev pub IsRun : Radix → Text → Type 0
IsRun radix run = list_all (in_run radix) run ≡ true

abbrev pub IsSuffix : Radix → Text → Text → Type 0
IsSuffix radix run suffix = (suffix ≡ []) ⊎ ((suffix ≡ 110 ∷ []) × (list_any (digit radix) run ≡ true))

abbrev pub IsFraction : Fraction → Type 0
IsFraction NoFraction = ⊤
IsFraction (Point run) = IsRun Decimal run

abbrev pub IsSign : Text → Type 0
IsSign text = (text ≡ []) ⊎ ((c : ℕ) × (text ≡ c ∷ []) × (is_sign c ≡ true))

abbrev pub IsExponent : Exponent → Type 0
IsExponent NoExponent = ⊤
IsExponent (Scaled mark sign run) = (is_exponent_mark mark ≡ true) × IsSign sign × IsRun Decimal run

abbrev pub IsNumber : Number → Type 0
IsNumber (Prefixed radix letter run suffix) = (radix_of letter ≡ Some radix) × IsRun radix run × IsSuffix radix run suffix
IsNumber (BigRun run) = IsRun Decimal run × (list_any (digit Decimal) run ≡ true)
IsNumber (OctalRun run) = IsRun Decimal run × (is_octal_run run ≡ true)
IsNumber (DecimalRun run fraction exponent) = IsRun Decimal run × (is_octal_run run ≡ false) × IsFraction fraction × IsExponent exponent

-- Laws

-- The parts of a number in a row are a front of the text.
abbrev pub NumberTiles : Type 0
NumberTiles = (text : Text) → number_text (number_parts text) ++ behind_number (number_parts text) text ≡ text

-- Where a number begins the text, it is not empty.
abbrev pub NumberIsSome : Type 0
NumberIsSome = (ts1085 : Bool) (rule : NumberRule) (text : Text) → opens_number text ≡ true → 0 < length (number ts1085 rule text).spelling

-- What is read has the forms of its parts.
abbrev pub NumberHasItsForm : Type 0
NumberHasItsForm = (text : Text) → IsNumber (number_parts text)

-- Parts of these forms are read as they are, at the end of the text and in front of a space or a line feed.
abbrev pub NumberIsRead : Type 0
NumberIsRead = (parts : Number) (r : Text) → IsNumber parts → separates r ≡ true → number_parts (number_text parts ++ r) ≡ parts

-- A separator in a run is faulty unless the run may hold some, a digit of it stands before, and one comes next.
abbrev pub SeparatorIsFaulty : Type 0
SeparatorIsFaulty =
    (allowed : Bool) (radix : Radix) (before next : Text) → IsRun radix before
    → faulty_separators allowed radix false 0 (before ++ (95 ∷ next))
    ≡ faulty_separators allowed radix false 0 before
    ++ ((if (allowed && list_any (digit radix) before) && next_passes (digit radix) next then [] else byte_len before ∷ [])
    ++ faulty_separators allowed radix (list_any (digit radix) before) (byte_len before + 1) next)

-- A number that is read cleanly is read the same at the end of the text and in front of a space or a line feed.
abbrev pub NumberIsLocal : Type 0
NumberIsLocal = (ts1085 : Bool) (rule : NumberRule) → IsLocal opens_number (number ts1085 rule) separates

-- A number that is read cleanly by the standard's rule is read the same by the crate's.
abbrev pub CleanByBothRules : Type 0
CleanByBothRules = (ts1085 : Bool) (text : Text) → is_clean (number ts1085 Standard text) ≡ true → number ts1085 Crate text ≡ number ts1085 Standard text

-- A whole value fits 128 bits.
abbrev pub WholeFits : Type 0
WholeFits = (parts : Number) (value : ℕ) → whole_value parts ≡ Some value → value < 2 ^ 128

-- No number begins an element of a gap.
abbrev pub NumberBeginsNoGap : Type 0
NumberBeginsNoGap = (mode : GapMode) (flag : Bool) (text : Text) → opens_number text ≡ true → element mode flag text ≡ None
