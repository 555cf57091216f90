use Rattle.ecma_scan.proofs.StringLaws.{string_is_pieces}
use Rattle.ecma_laws.proofs.laws.strings.string_is_pieces.Goals as goal

pub returns : goal.returns
returns c = string_is_pieces
