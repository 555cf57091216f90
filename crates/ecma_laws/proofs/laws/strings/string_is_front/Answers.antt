use Rattle.ecma_scan.proofs.StringLaws.{string_is_front}
use Rattle.ecma_laws.proofs.laws.strings.string_is_front.Goals as goal

pub returns : goal.returns
returns c = string_is_front
