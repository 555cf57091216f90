use Rattle.std.proofs.Common.{◌≡◌, Option, option_map, IfOk, refl, sym, ap, subst, ◌∙◌, arith, length-append}
use Rattle.ecma_place.specs.Cursor.{rest}
use Rattle.ecma_token.specs.View.{ErrorView, error_view}
use Rattle.ecma_grammar.specs.Found.{error_behind}
use Rattle.ecma_grammar.specs.Numbers.{suffix_of}
use Rattle.ecma_number.specs.WrittenNumbers.{fraction_of, exponent_of}
use Rattle.ecma_number.proofs.Refusals.{before_exponent, parts_fit}
use Rattle.ecma_grammar.proofs.NumberRefusals.{exponent_refusal-behind}
use Rattle.ecma_number.proofs.number.refusals.part_refusal.Goals as goal

pub digit_refusal-requires-clause-fits : goal.digit_refusal-requires-clause-fits
digit_refusal-requires-clause-fits c =
    let fits = rw c.in-Radixed.is at c.requires.fits in
    omega (arith, length-append c.in-Radixed.run'.now (suffix_of c.in-Radixed.big))

pub returns-in-Big-clause-value : goal.returns-in-Big-clause-value
returns-in-Big-clause-value c = rw c.in-Big.is refl

pub returns-in-Legacy-clause-value : goal.returns-in-Legacy-clause-value
returns-in-Legacy-clause-value c = rw c.in-Legacy.is refl

-- the parts fit with the number

pub fraction_len-requires : goal.fraction_len-requires
fraction_len-requires c =
    let fits = parts_fit c.args.start.0 c.in-Plain.run'.now (fraction_of c.in-Plain.fraction) (exponent_of c.in-Plain.exponent) (rw c.in-Plain.is at c.requires.fits) in
    omega arith

pub overflow_add-behind : goal.overflow_add-behind
overflow_add-behind c =
    let fits = parts_fit c.args.start.0 c.in-Plain.run'.now (fraction_of c.in-Plain.fraction) (exponent_of c.in-Plain.exponent) (rw c.in-Plain.is at c.requires.fits) in
    omega (arith, c.fraction_len.ensures)

pub overflow_cast-behind : goal.overflow_cast-behind
overflow_cast-behind c =
    let fits = parts_fit c.args.start.0 c.in-Plain.run'.now (fraction_of c.in-Plain.fraction) (exponent_of c.in-Plain.exponent) (rw c.in-Plain.is at c.requires.fits) in
    omega (arith, c.fraction_len.ensures)

pub overflow_add-behind-in-Plain : goal.overflow_add-behind-in-Plain
overflow_add-behind-in-Plain c =
    let fits = parts_fit c.args.start.0 c.in-Plain.run'.now (fraction_of c.in-Plain.fraction) (exponent_of c.in-Plain.exponent) (rw c.in-Plain.is at c.requires.fits) in
    omega (arith, c.fraction_len.ensures)

pub exponent_refusal-requires-clause-fits : goal.exponent_refusal-requires-clause-fits
exponent_refusal-requires-clause-fits c =
    let fits = parts_fit c.args.start.0 c.in-Plain.run'.now (fraction_of c.in-Plain.fraction) (exponent_of c.in-Plain.exponent) (rw c.in-Plain.is at c.requires.fits) in
    omega (arith, c.fraction_len.ensures)

pub returns-in-Plain-clause-value : goal.returns-in-Plain-clause-value
returns-in-Plain-clause-value c =
    let run = c.in-Plain.run'.now in
    let exponent = exponent_of c.in-Plain.exponent in
    let sum = before_exponent c.args.start.0 run (fraction_of c.in-Plain.fraction) exponent _ (rw c.in-Plain.is at c.requires.form) c.fraction_len.ensures in
    let P : Option ErrorView → Type 0 = λ found. IfOk c.exponent_refusal.result (λ r. option_map error_view r ≡ found) in
    rw c.in-Plain.is (subst P (sym (exponent_refusal-behind c.args.start.0 _ _ exponent (rest c.args.input.now) sum)) c.exponent_refusal.ensures.value)

pub returns-in-Plain-clause-free : goal.returns-in-Plain-clause-free
returns-in-Plain-clause-free c =
    let run = c.in-Plain.run'.now in
    let exponent = exponent_of c.in-Plain.exponent in
    let sum = before_exponent c.args.start.0 run (fraction_of c.in-Plain.fraction) exponent _ (rw c.in-Plain.is at c.requires.form) c.fraction_len.ensures in
    λ none.
    let same = exponent_refusal-behind c.args.start.0 _ _ exponent (rest c.args.input.now) sum in
    c.exponent_refusal.ensures.free (sym same ∙ ap (option_map (error_behind c.args.start.0)) (rw c.in-Plain.is at none))
