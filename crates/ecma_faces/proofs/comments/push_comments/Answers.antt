use Rattle.std.proofs.Common.{◌≡◌, ◌++◌, subst}
use Rattle.std.specs.Prelude.{flat_map}
use Rattle.std.proofs.lemmas.List.{take_all}
use Rattle.ecma_faces.specs.Comments.{comment_row}
use Rattle.ecma_report.specs.Reports.{Adds}
use Rattle.ecma_report.proofs.ReportLemmas.{row-added}
use Rattle.ecma_report.proofs.ReportLemmas.{adds-none, stays-of, stays-on, stays-same}
use Rattle.ecma_faces.proofs.comments.push_comments.Goals as goal

pub comments-init : goal.comments-init
comments-init g c = (stays-same c.args.report.now, λ ask file bytes of. adds-none (g.W.Write.contents c.args.out.now) c.args.report.now.out.items)

pub comments-preserved : goal.comments-preserved
comments-preserved g c =
    let begun = c.args.report.now in
    let here = c.comments.report in
    let pushed = c.push_comment.new.report in
    let stays = c.comments.invariant.0 in (
      stays-on begun pushed c.pass_on.new.self (stays-on begun here pushed stays c.push_comment.ensures.stays) c.in_ok-pass_on.ensures.stays,
      λ ask file bytes of.
          row-added (comment_row ask file bytes) c.args.comments.now c.comments.buffered-index _
          (g.W.Write.contents c.args.out.now) (g.W.Write.contents c.comments.out) (g.W.Write.contents c.pass_on.new.out)
          begun.out.items here.out.items pushed.out.items c.pass_on.new.self.out.items
          c.comments-test.true
          (c.comments.invariant.1 ask file bytes of)
          (subst (λ b. pushed.out.items ≡ here.out.items ++ comment_row ask file bytes b) c.buffered-item.is (c.in_ok-push_comment.ensures.added ask file bytes (stays-of ask file bytes begun here stays of)))
          c.in_ok-pass_on.ensures.adds,
    )

pub returns-clause-adds : goal.returns-clause-adds
returns-clause-adds g c = λ ask file bytes of.
    subst (λ rows. Adds (g.W.Write.contents c.args.out.now) (g.W.Write.contents c.comments.out) c.args.report.now.out.items c.comments.report.out.items (flat_map (comment_row ask file bytes) rows))
    (take_all c.comments.buffered-index c.args.comments.now c.comments-test.false) (c.comments.invariant.1 ask file bytes of)
