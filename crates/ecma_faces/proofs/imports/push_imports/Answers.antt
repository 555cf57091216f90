use Rattle.std.proofs.Common.{subst}
use Rattle.std.specs.Prelude.{flat_map}
use Rattle.std.proofs.lemmas.List.{take_all}
use Rattle.ecma_faces.specs.Modules.{import_row}
use Rattle.ecma_report.specs.Reports.{Adds}
use Rattle.ecma_report.proofs.ReportLemmas.{row-added}
use Rattle.ecma_report.proofs.ReportLemmas.{adds-none, stays-of, stays-on, stays-same}
use Rattle.ecma_faces.proofs.imports.push_imports.Goals as goal

pub imports-init : goal.imports-init
imports-init g c = (stays-same c.args.report.now, λ ask file bytes of. adds-none (g.W.Write.contents c.args.out.now) c.args.report.now.out.items)

pub imports-preserved : goal.imports-preserved
imports-preserved g c =
    let begun = c.args.report.now in
    let here = c.imports.report in
    let pushed = c.push_import.new.report in
    let stays = c.imports.invariant.0 in (
      stays-on begun pushed c.pass_on.new.self (stays-on begun here pushed stays c.push_import.ensures.stays) c.in_ok-pass_on.ensures.stays,
      λ ask file bytes of.
          row-added (import_row ask file bytes) c.args.imports.now c.imports.import-index _
          (g.W.Write.contents c.args.out.now) (g.W.Write.contents c.imports.out) (g.W.Write.contents c.pass_on.new.out)
          begun.out.items here.out.items pushed.out.items c.pass_on.new.self.out.items
          c.imports-test.true
          (c.imports.invariant.1 ask file bytes of)
          (c.in_ok-push_import.ensures.added ask file bytes (stays-of ask file bytes begun here stays of))
          c.in_ok-pass_on.ensures.adds,
    )

pub returns-clause-adds : goal.returns-clause-adds
returns-clause-adds g c = λ ask file bytes of.
    subst (λ rows. Adds (g.W.Write.contents c.args.out.now) (g.W.Write.contents c.imports.out) c.args.report.now.out.items c.imports.report.out.items (flat_map (import_row ask file bytes) rows))
    (take_all c.imports.import-index c.args.imports.now c.imports-test.false) (c.imports.invariant.1 ask file bytes of)
