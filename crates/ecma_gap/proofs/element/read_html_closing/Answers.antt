use Rattle.std.proofs.Common.{arith, codes}
use Rattle.ecma_place.proofs.MoveLemmas.{place-passed-le}
use Rattle.ecma_gap.specs.GapRecords.{gap_so_far}
use Rattle.ecma_gap.proofs.ElementLemmas.{when-ok, html-closing-said, line-moved, always-ok}
use Rattle.ecma_gap.proofs.element.read_html_closing.Goals as goal

pub new-span-requires : goal.new-span-requires
new-span-requires c = omega (arith, c.cur_pos-start.ensures, c.cur_pos-behind.ensures, place-passed-le _ _ _ c.pass.ensures)

pub returns-clause-so_far : goal.returns-clause-so_far
returns-clause-so_far c =
    when-ok _ _ _ c.read_comment_line.ensures.so_far
    (html-closing-said c.args.mode.now (gap_so_far c.args.so_far.now) _ _ _ _ _ _ _ _ c.requires c.cur_pos-start.ensures c.pass.ensures c.cur_pos-behind.ensures c.read_comment_line.ensures.moved c.in_ok-open_at.ensures.so_far (rw c.new-span.ensures at c.in_ok-add_fault.ensures))

pub returns-clause-moved : goal.returns-clause-moved
returns-clause-moved c = always-ok _ _ (line-moved (codes "-->") _ _ _ c.pass.ensures c.read_comment_line.ensures.moved)
