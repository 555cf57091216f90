use Rattle.ecma_scan.proofs.NumberLaws.{whole_fits}
use Rattle.ecma_laws.proofs.laws.numbers.whole_fits.Goals as goal

pub returns : goal.returns
returns c = whole_fits
