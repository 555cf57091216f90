use Rattle.std.proofs.Common.{◌+◌, length, refl, ap}
use Rattle.ecma_number.specs.WrittenNumbers.{fraction_of, exponent_of}
use Rattle.ecma_grammar.proofs.PartFaults.{plain_said}
use Rattle.ecma_number.proofs.number.faults.push_decimal_faults.Goals as goal

pub returns-clause-faults : goal.returns-clause-faults
returns-clause-faults c =
    plain_said c.args.start.0 c.args.rule c.args.run.now (fraction_of c.args.fraction) (exponent_of c.args.exponent) _ _ _ _ _
    (c.args.start.0 + length c.args.run.now) (c.args.start.0 + length c.args.run.now + c.fraction_len.result)
    c.requires.run c.requires.fraction refl (ap (λ n. c.args.start.0 + length c.args.run.now + n) c.fraction_len.ensures)
    c.in_ok-push_first_run_faults.ensures.faults c.in_ok-push_legacy_fault.ensures.faults c.in_ok-push_fraction_faults.ensures.faults c.in_ok-push_exponent_faults.ensures.faults
