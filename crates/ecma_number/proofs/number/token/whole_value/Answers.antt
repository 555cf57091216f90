use Rattle.ecma_number.specs.WrittenNumbers.{fraction_of, exponent_of}
use Rattle.ecma_number.proofs.NumberDigits.{run-digits, octal-digits, plain-digits}
use Rattle.ecma_number.proofs.number.token.whole_value.Goals as goal

pub fitting_value-requires-clause-all : goal.fitting_value-requires-clause-all
fitting_value-requires-clause-all c =
    let form = rw c.in-Radixed.is at c.requires.form in
    let digits = rw c.in-Radixed.is at c.requires.digits in
    rw digits (run-digits c.in-Radixed.radix _ form.1)

pub fitting_value-requires-in-Legacy-clause-all : goal.fitting_value-requires-in-Legacy-clause-all
fitting_value-requires-in-Legacy-clause-all c =
    let form = rw c.in-Legacy.is at c.requires.form in
    let digits = rw c.in-Legacy.is at c.requires.digits in
    rw digits (octal-digits c.in-Legacy.field-0.now form)

pub plain_value-requires-clause-all : goal.plain_value-requires-clause-all
plain_value-requires-clause-all c =
    let form = rw c.in-Plain.is at c.requires.form in
    let digits = rw c.in-Plain.is at c.requires.digits in
    λ none plain. plain-digits c.in-Plain.run'.now (fraction_of c.in-Plain.fraction) (exponent_of c.in-Plain.exponent) c.args.digits.now form.0 digits none plain
