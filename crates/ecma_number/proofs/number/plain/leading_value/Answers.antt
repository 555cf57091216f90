use Rattle.std.proofs.Common.{refl, sym, ◌∙◌, arith}
use Rattle.ecma_number.proofs.PlainNumber.{worth-more, digits-more, digits-stop, value-long}
use Rattle.ecma_number.proofs.number.plain.leading_value.Goals as goal

pub digits-preserved : goal.digits-preserved
digits-preserved c =
    let inv = c.digits.invariant in
    let bytes = c.args.bytes.now in
    let here = sym c.is_decimal.ensures ∙ c.if-is_decimal.true in
    (omega arith, worth-more bytes c.digits.count c.digits.value _ c.digits-test.true refl here inv.1, digits-more bytes c.digits.count inv.2 here)

pub returns-else-is_decimal-clause-count : goal.returns-else-is_decimal-clause-count
returns-else-is_decimal-clause-count c =
    let inv = c.digits.invariant in
    digits-stop c.args.bytes.now c.digits.count inv.0 inv.2 (λ _. sym c.is_decimal.ensures ∙ c.if-is_decimal.false)

pub returns-after-digits-clause-count : goal.returns-after-digits-clause-count
returns-after-digits-clause-count c =
    let inv = c.digits.invariant in
    digits-stop c.args.bytes.now c.digits.count inv.0 inv.2 (λ inside. absurd (omega arith))

pub returns-then-value-ge100000000000000000-clause-long : goal.returns-then-value-ge100000000000000000-clause-long
returns-then-value-ge100000000000000000-clause-long c =
    let inv = c.digits.invariant in
    value-long c.args.bytes.now c.digits.count c.digits.value c.digits-test.true inv.2 (sym c.is_decimal.ensures ∙ c.if-is_decimal.true) inv.1 c.if-value-ge100000000000000000.true
