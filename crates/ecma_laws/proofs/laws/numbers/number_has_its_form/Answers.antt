use Rattle.ecma_scan.proofs.NumberLaws.{number_sound}
use Rattle.ecma_laws.proofs.laws.numbers.number_has_its_form.Goals as goal

pub returns : goal.returns
returns c = number_sound
