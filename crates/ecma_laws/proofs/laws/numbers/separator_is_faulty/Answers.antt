use Rattle.ecma_scan.proofs.NumberLaws.{separator_is_faulty}
use Rattle.ecma_laws.proofs.laws.numbers.separator_is_faulty.Goals as goal

pub returns : goal.returns
returns c = separator_is_faulty
