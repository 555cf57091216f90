use Rattle.std.proofs.Common.{arith}
use Rattle.ecma_place.proofs.MoveLemmas.{place-passed-le}
use Rattle.ecma_gap.proofs.element.read_comment_line.Goals as goal

pub new-span-requires : goal.new-span-requires
new-span-requires c = omega (arith, c.cur_pos.ensures, place-passed-le _ _ _ c.read_line-text.ensures.moved)
