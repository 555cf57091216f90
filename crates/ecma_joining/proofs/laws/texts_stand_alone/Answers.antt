use Rattle.ecma_joining.proofs.TextsLaws.{texts_stand_alone}
use Rattle.ecma_joining.proofs.laws.texts_stand_alone.Goals as goal

pub returns : goal.returns
returns c = texts_stand_alone
