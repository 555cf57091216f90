use Rattle.std.proofs.Common.{◌<◌, length, refl}
use Rattle.ecma_number.proofs.DigitValues.{digits-more}
use Rattle.ecma_number.proofs.number.digits.without_separators.Goals as goal

pub bytes-preserved : goal.bytes-preserved
bytes-preserved c =
    let text = c.args.text.now in
    let same = c.as_bytes-b-items.ensures.value in
    let inside : c.bytes.b-index < length text = rw same at c.bytes-test.true in
    digits-more text c.bytes.b-index _ _ _ inside (rw same refl) c.bytes.invariant c.in_ok-push_digit.ensures
