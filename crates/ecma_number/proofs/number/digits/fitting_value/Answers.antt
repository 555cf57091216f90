use Rattle.std.proofs.Common.{◌∙◌}
use Rattle.ecma_number.proofs.DigitValues.{fitting-parsed}
use Rattle.ecma_number.proofs.number.digits.fitting_value.Goals as goal

pub returns : goal.returns
returns c =
    c.ok.ensures.value ∙ fitting-parsed c.args.radix c.args.digits.now c.from_str_radix.result (rw c.base.ensures.value at c.from_str_radix.ensures.value) c.requires.all c.requires.some
