use Rattle.std.proofs.Common.{sym, ◌∙◌, arith}
use Rattle.ecma_number.proofs.PlainNumber.{digits-more, digits-stop}
use Rattle.ecma_number.proofs.number.plain.leading_digits.Goals as goal

pub digits-preserved : goal.digits-preserved
digits-preserved c =
    (omega arith, digits-more c.args.bytes.now c.digits.count c.digits.invariant.1 (sym c.is_decimal.ensures ∙ c.if-is_decimal.true))

pub returns-else-is_decimal-clause-count : goal.returns-else-is_decimal-clause-count
returns-else-is_decimal-clause-count c =
    digits-stop c.args.bytes.now c.digits.count c.digits.invariant.0 c.digits.invariant.1 (λ _. sym c.is_decimal.ensures ∙ c.if-is_decimal.false)

pub returns-after-digits-clause-count : goal.returns-after-digits-clause-count
returns-after-digits-clause-count c =
    digits-stop c.args.bytes.now c.digits.count c.digits.invariant.0 c.digits.invariant.1 (λ inside. absurd (omega arith))
