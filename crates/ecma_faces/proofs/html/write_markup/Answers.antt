use Rattle.std.proofs.Common.{◌++◌, ◌∙◌, ap, append-nil, subst, sym}
use Rattle.ecma_html.specs.Marked.{AreInOrder}
use Rattle.ecma_html.specs.Parts.{left_html}
use Rattle.ecma_report.specs.Reports.{Adds, look_of}
use Rattle.ecma_report.specs.Rows.{whole_part}
use Rattle.ecma_report.proofs.PartLemmas.{part-append, part-none}
use Rattle.ecma_report.proofs.ReportLemmas.{same-look, stays-on}
use Rattle.ecma_faces.proofs.StreamLemmas.{none-before, streams-all, streams-more}
use Rattle.ecma_faces.proofs.html.write_markup.Goals as goal

pub pieces-preserved : goal.pieces-preserved
pieces-preserved g c =
    let begun = c.args.report.now in
    let here = c.pieces.report in
    let pushed = c.push_piece.new.report in
    let passed = c.pass_on.new.self in
    let stays = c.pieces.invariant.0 in
    let same = c.pieces.invariant.1 in
    let look = look_of begun in (
      stays-on begun pushed passed (stays-on begun here pushed stays c.push_piece.ensures.stays) c.in_ok-pass_on.ensures.stays,
      c.push_piece.ensures.places ∙ same,
      λ order.
          let moves = c.in_ok-push_piece.ensures.added (subst AreInOrder (sym same) order) in
          streams-more
          (g.W.Write.contents c.args.out.now) (g.W.Write.contents c.pieces.out) (g.W.Write.contents c.pass_on.new.out)
          begun.out.items here.out.items pushed.out.items passed.out.items
          (whole_part look moves.own) (whole_part look (left_html c.pieces.markup)) (whole_part look (left_html c.push_piece.new.markup)) (whole_part look (left_html c.args.markup.now))
          (c.pieces.invariant.2 order)
          (moves.added ∙ ap (λ l. here.out.items ++ whole_part l moves.own) (same-look begun here stays))
          (ap (whole_part look) moves.left ∙ part-append look moves.own (left_html c.push_piece.new.markup))
          c.in_ok-pass_on.ensures.adds,
    )

pub returns-clause-adds : goal.returns-clause-adds
returns-clause-adds g c = λ order.
    let begun = c.args.report.now in
    let here = c.pieces.report in
    let look = look_of begun in
    let before = g.W.Write.contents c.args.out.now in
    let after = g.W.Write.contents c.pieces.out in
    let all = whole_part look (left_html c.args.markup.now) in
    let ended = c.in_ok-push_piece.ensures.ended c.if-branch.false in
    let moves = c.in_ok-push_piece.ensures.added (subst AreInOrder (sym c.pieces.invariant.1) order) in
    let none = none-before moves.own (left_html c.push_piece.new.markup) (sym ended ∙ moves.left) in
    let written = streams-all before after begun.out.items here.out.items (whole_part look (left_html c.pieces.markup)) all (c.pieces.invariant.2 order) (ap (whole_part look) ended ∙ part-none look) in
    let same =
    moves.added
    ∙ ap (λ own. here.out.items ++ whole_part (look_of here) own) none
    ∙ ap (λ own. here.out.items ++ own) (part-none (look_of here))
    ∙ append-nil here.out.items in
    subst (λ now. Adds before after begun.out.items now all) (sym same) written
