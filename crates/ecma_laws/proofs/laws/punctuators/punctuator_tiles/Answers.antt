use Rattle.ecma_scan.proofs.PunctuatorLaws.{punctuator_tiles}
use Rattle.ecma_laws.proofs.laws.punctuators.punctuator_tiles.Goals as goal

pub returns : goal.returns
returns c = punctuator_tiles
