-- Plain decimal numbers, of which nothing is told besides. Which they are is our own choice.
use Rattle.std.specs.Prelude.{◌≡◌, ℕ, Bool, true, false, not, ◌&&◌, ◌==◌, ◌||◌, nat_lt, List, ◌∷◌, ◌++◌, length, Option}
use Rattle.std.specs.List.{list_all}
use Rattle.ecma_place.specs.Text.{Text}
use Rattle.ecma_place.specs.Character.{is_ident_start}
use Rattle.ecma_token.specs.declared.token.Radix.TheVariants.{Decimal}
use Rattle.ecma_grammar.specs.Numbers.{digit, is_legacy, whole_value, number_text, DecimalRun, Fraction, NoFraction, Point, NoExponent}

-- digits alone, no separator among them
abbrev pub AreDigits : Text → Type 0
AreDigits run = list_all (digit Decimal) run ≡ true

-- a point and digits, or nothing
abbrev pub fraction_digits : Fraction → Bool
fraction_digits NoFraction = true
fraction_digits (Point run) = list_all (digit Decimal) run

-- an ASCII character that begins no name, and is no backslash
abbrev pub ends_number : ℕ → Bool
ends_number c = nat_lt c 128 && not (is_ident_start c || c == 92)

-- a digit, or a point where no fraction came, goes on with the number
abbrev pub goes_on : Fraction → ℕ → Bool
goes_on NoFraction c = digit Decimal c || c == 46
goes_on (Point run) c = digit Decimal c

-- The text, or its bytes, begins with a number of digits alone, whose first is no zero before others, with a fraction or
-- without, and behind it stands a character that neither goes on with it nor begins a name, and is no backslash.
pub record StartsPlain (text : List ℕ) : Type 0 where
  pub run : Text
  pub fraction : Fraction
  pub next : ℕ
  pub behind : List ℕ
  pub splits : text ≡ number_text (DecimalRun run fraction NoExponent) ++ (next ∷ behind)
  pub digits : AreDigits run
  pub unpadded : is_legacy run ≡ false
  pub tail_digits : fraction_digits fraction ≡ true
  pub ends : ends_number next ≡ true
  pub stops : goes_on fraction next ≡ false

-- The bytes begin with such a number, of this many bytes and this whole value.
pub record IsPlain (bytes : List ℕ) (count : ℕ) (whole : Option ℕ) : Type 0 where
  pub start : StartsPlain bytes
  pub reaches : count ≡ length (number_text (DecimalRun start.run start.fraction NoExponent))
  pub worth : whole ≡ whole_value (DecimalRun start.run start.fraction NoExponent)
