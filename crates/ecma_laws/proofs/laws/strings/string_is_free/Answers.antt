use Rattle.ecma_laws.proofs.FreeLemmas.{string_is_free}
use Rattle.ecma_laws.proofs.laws.strings.string_is_free.Goals as goal

pub returns : goal.returns
returns c = string_is_free
