use Rattle.std.proofs.Common.{true}
use Rattle.ecma_place.proofs.MoveLemmas.{place-passed-le}
use Rattle.ecma_syntax.specs.declared.settings.NumberRule.TheVariants.{Crate}
use Rattle.ecma_plain.proofs.plain.eaten_number.Goals as goal

pub new-requires : goal.new-requires
new-requires c = rw c.cur_pos-start.ensures (rw c.cur_pos.ensures (place-passed-le _ _ _ (c.in_ok-token.ensures.moved true Crate)))
