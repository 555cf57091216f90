use Rattle.std.proofs.Common.{subst}
use Rattle.std.specs.Prelude.{flat_map}
use Rattle.std.proofs.lemmas.List.{take_all}
use Rattle.ecma_faces.specs.Modules.{export_row}
use Rattle.ecma_report.specs.Reports.{Adds}
use Rattle.ecma_report.proofs.ReportLemmas.{row-added}
use Rattle.ecma_report.proofs.ReportLemmas.{adds-none, stays-of, stays-on, stays-same}
use Rattle.ecma_faces.proofs.imports.push_exports.Goals as goal

pub exports-init : goal.exports-init
exports-init g c = (stays-same c.args.report.now, λ ask file bytes of. adds-none (g.W.Write.contents c.args.out.now) c.args.report.now.out.items)

pub exports-preserved : goal.exports-preserved
exports-preserved g c =
    let begun = c.args.report.now in
    let here = c.exports.report in
    let pushed = c.push_export.new.report in
    let stays = c.exports.invariant.0 in (
      stays-on begun pushed c.pass_on.new.self (stays-on begun here pushed stays c.push_export.ensures.stays) c.in_ok-pass_on.ensures.stays,
      λ ask file bytes of.
          row-added (export_row ask file bytes) c.args.exports.now c.exports.export-index _
          (g.W.Write.contents c.args.out.now) (g.W.Write.contents c.exports.out) (g.W.Write.contents c.pass_on.new.out)
          begun.out.items here.out.items pushed.out.items c.pass_on.new.self.out.items
          c.exports-test.true
          (c.exports.invariant.1 ask file bytes of)
          (c.in_ok-push_export.ensures.added ask file bytes (stays-of ask file bytes begun here stays of))
          c.in_ok-pass_on.ensures.adds,
    )

pub returns-clause-adds : goal.returns-clause-adds
returns-clause-adds g c = λ ask file bytes of.
    subst (λ rows. Adds (g.W.Write.contents c.args.out.now) (g.W.Write.contents c.exports.out) c.args.report.now.out.items c.exports.report.out.items (flat_map (export_row ask file bytes) rows))
    (take_all c.exports.export-index c.args.exports.now c.exports-test.false) (c.exports.invariant.1 ask file bytes of)
