use Rattle.std.proofs.Common.{arith, codes}
use Rattle.ecma_place.proofs.MoveLemmas.{place-passed-le}
use Rattle.ecma_gap.specs.GapRecords.{gap_so_far}
use Rattle.ecma_gap.proofs.ElementLemmas.{when-ok, slashes-said, line-moved}
use Rattle.ecma_gap.proofs.element.read_line_comment.Goals as goal

pub read_comment_line-requires : goal.read_comment_line-requires
read_comment_line-requires c = omega (arith, c.cur_pos-start.ensures, place-passed-le _ _ _ c.pass.ensures)

pub returns-clause-so_far : goal.returns-clause-so_far
returns-clause-so_far c = when-ok _ _ _ c.read_comment_line.ensures.so_far
    (slashes-said c.args.mode.now (gap_so_far c.args.so_far.now) _ _ _ _ _ c.requires c.cur_pos-start.ensures c.pass.ensures c.read_comment_line.ensures.moved)

pub returns-clause-moved : goal.returns-clause-moved
returns-clause-moved c = line-moved (codes "//") _ _ _ c.pass.ensures c.read_comment_line.ensures.moved
