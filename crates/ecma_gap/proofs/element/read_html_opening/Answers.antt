use Rattle.std.proofs.Common.{arith, codes, refl, ap, length, length-drop}
use Rattle.ecma_place.specs.Cursor.{rest}
use Rattle.ecma_place.proofs.MoveLemmas.{place-passed-le}
use Rattle.ecma_gap.specs.GapRecords.{gap_so_far}
use Rattle.ecma_gap.proofs.ElementLemmas.{when-ok, html-opening-said, line-moved, two-moves, always-ok}
use Rattle.ecma_grammar.proofs.SignLemmas.{signs-within, rest-behind}
use Rattle.ecma_gap.proofs.element.read_html_opening.Goals as goal

pub pass-requires-2 : goal.pass-requires-2
pass-requires-2 c =
    omega (arith, signs-within (codes "<!--") (rest c.args.input.now) c.requires, ap length (rest-behind _ _ _ c.pass.ensures), length-drop 1 (rest c.args.input.now))

pub read_comment_line-requires : goal.read_comment_line-requires
read_comment_line-requires c = omega (arith, c.cur_pos-comment.ensures, place-passed-le _ _ _ c.pass-2.ensures)

pub returns-clause-so_far : goal.returns-clause-so_far
returns-clause-so_far c =
    when-ok _ _ _ c.read_comment_line.ensures.so_far
    (html-opening-said c.args.mode.now (gap_so_far c.args.so_far.now) _ _ _ _ _ _ _ _ c.requires c.cur_pos-start.ensures c.pass.ensures c.cur_pos-comment.ensures c.pass-2.ensures c.read_comment_line.ensures.moved c.in_ok-open_at.ensures.so_far)

pub returns-clause-moved : goal.returns-clause-moved
returns-clause-moved c = always-ok _ _ (line-moved (codes "<!--") _ _ _ (two-moves _ _ _ 1 3 4 c.pass.ensures c.pass-2.ensures refl) c.read_comment_line.ensures.moved)
