use Rattle.std.proofs.Common.{◌∙◌, [], ap, refl, subst}
use Rattle.ecma_modules.specs.Modules.{imports_of}
use Rattle.ecma_faces.specs.Modules.{import_rows, module_options, tokens_of}
use Rattle.ecma_report.specs.Reports.{Adds, writes_errors}
use Rattle.ecma_report.proofs.FaultLemmas.{faults-as}
use Rattle.ecma_report.proofs.ReportLemmas.{adds-on, keeps-faults, keeps-same, still-of}
use Rattle.ecma_faces.proofs.imports.write_imports.Goals as goal

pub returns-clause-adds : goal.returns-clause-adds
returns-clause-adds g c = λ ask file bytes of face.
    let first = c.args.report.now in
    let read = c.read_module.new.report in
    let last = c.push_imports.new.report in
    let before = g.W.Write.contents c.args.out.now in
    let between = g.W.Write.contents c.read_module.new.out in
    let after = g.W.Write.contents c.push_imports.new.out in
    let ok = c.in_ok-module.ensures in
    let nothing = ok.nothing (ap (λ l. writes_errors l.asked.face) of.look ∙ face) in
    let same = c.deref.ensures.value ∙ ok.imports ask file bytes of in
    let here = still-of ask file bytes first read ok.still of in
    let told = subst (λ rows. Adds between after read.out.items last.out.items (import_rows ask file bytes rows)) same (c.in_ok-push_imports.ensures.adds ask file bytes here) in
    adds-on before between after first.out.items read.out.items last.out.items [] (import_rows ask file bytes (imports_of (module_options ask.asked) (tokens_of c.args.named ask bytes))) nothing told

pub returns-clause-lines : goal.returns-clause-lines
returns-clause-lines g c = λ ask file bytes of.
    let read = c.read_module.new.report in
    let last = c.push_imports.new.report in
    faults-as _ ask file bytes _ _ c.args.report.now c.args.report.now read last refl (keeps-same c.args.report.now) (keeps-faults read last c.in_ok-push_imports.ensures.stays) (c.in_ok-module.ensures.lines ask file bytes of)
