use Rattle.std.proofs.Common.{◌≡◌, ◌+◌, ◌++◌, true, List, map, OnOk, refl, sym, subst, arith, codes, length-append}
use Rattle.ecma_grammar.specs.Found.{Fault, fault_view}
use Rattle.ecma_grammar.specs.Numbers.{run_faults, is_separator, fraction_text, exponent_text, suffix_of}
use Rattle.ecma_number.specs.WrittenNumbers.{fraction_of, exponent_of}
use Rattle.ecma_grammar.proofs.EmptyLists.{append-none}
use Rattle.ecma_number.proofs.OctalFaults.{not_legacy}
use Rattle.ecma_grammar.proofs.PartFaults.{all_shifted}
use Rattle.ecma_number.proofs.Refusals.{parts_fit}
use Rattle.ecma_number.proofs.RunFaults.{any-parts}
use Rattle.ecma_number.proofs.number.faults.push_part_faults.Goals as goal

pub push_run_faults-requires-clause-fits : goal.push_run_faults-requires-clause-fits
push_run_faults-requires-clause-fits c =
    let fits = rw c.in-Radixed.is at c.requires.fits in
    omega (arith, length-append c.in-Radixed.run'.now (suffix_of c.in-Radixed.big))

pub push_first_run_faults-requires-clause-fits : goal.push_first_run_faults-requires-clause-fits
push_first_run_faults-requires-clause-fits c =
    let fits = rw c.in-Big.is at c.requires.fits in
    omega (arith, length-append c.in-Big.run'.now (codes "n"))

pub push_decimal_faults-requires-clause-fits : goal.push_decimal_faults-requires-clause-fits
push_decimal_faults-requires-clause-fits c =
    parts_fit c.args.start.0 c.in-Plain.run'.now (fraction_of c.in-Plain.fraction) (exponent_of c.in-Plain.exponent) (rw c.in-Plain.is at c.requires.fits)

pub returns-in-Radixed-clause-faults : goal.returns-in-Radixed-clause-faults
returns-in-Radixed-clause-faults c =
    let start = c.args.start.0 in
    let P : List Fault → Type 0 = λ found. OnOk c.push_run_faults.result (map fault_view c.push_run_faults.new.faults.items ≡ map fault_view c.args.faults.now.items ++ found) in
    rw c.in-Radixed.is (subst P (sym (all_shifted start 2 (start + 2) (run_faults true c.in-Radixed.radix c.in-Radixed.run'.now) refl)) c.push_run_faults.ensures.faults)

pub returns-in-Plain-clause-free : goal.returns-in-Plain-clause-free
returns-in-Plain-clause-free c =
    let run = c.in-Plain.run'.now in
    let fraction = fraction_of c.in-Plain.fraction in
    let exponent = exponent_of c.in-Plain.exponent in
    λ none clean.
    let plain = rw c.in-Plain.is at none in
    let said = rw c.in-Plain.is at clean in
    let parts = any-parts is_separator run _ plain in
    let more = any-parts is_separator (fraction_text fraction) (exponent_text exponent) parts.1 in
    let legacy = append-none _ _ (append-none _ _ said).1 in
    c.push_decimal_faults.ensures.free parts.0 more.0 more.1 (not_legacy run legacy.0)
