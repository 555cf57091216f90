-- What a reader's parts of a number say: their texts are ASCII, so that their bytes are their characters.
use Rattle.ecma_number.specs.declared.number.parts.WrittenNumber.{WrittenNumber}
use Rattle.ecma_number.specs.declared.number.parts.WrittenNumber.TheVariants.{Radixed, Big, Legacy, Plain}
use Rattle.ecma_number.specs.declared.number.parts.WrittenFraction.{WrittenFraction}
use Rattle.ecma_number.specs.declared.number.parts.WrittenFraction.TheVariants.{Pointless, Pointed}
use Rattle.ecma_number.specs.declared.number.parts.WrittenExponent.{WrittenExponent}
use Rattle.ecma_number.specs.declared.number.parts.WrittenExponent.TheVariants.{Unscaled, Marked}
use Rattle.ecma_grammar.specs.Numbers.{Number, Prefixed, BigRun, OctalRun, DecimalRun, Fraction, NoFraction, Point, Exponent, NoExponent, Scaled, suffix_of}

abbrev pub fraction_of : WrittenFraction → Fraction
fraction_of Pointless = NoFraction
fraction_of (Pointed run) = Point run.now

abbrev pub exponent_of : WrittenExponent → Exponent
exponent_of Unscaled = NoExponent
exponent_of (Marked mark sign run) = Scaled mark sign.now run.now

abbrev pub number_of : WrittenNumber → Number
number_of (Radixed radix letter run big) = Prefixed radix letter run.now (suffix_of big)
number_of (Big run) = BigRun run.now
number_of (Legacy run) = OctalRun run.now
number_of (Plain run fraction exponent) = DecimalRun run.now (fraction_of fraction) (exponent_of exponent)
