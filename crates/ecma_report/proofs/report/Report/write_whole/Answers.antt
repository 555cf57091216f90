use Rattle.std.proofs.Common.{◌∙◌, [], ◌∷◌, ◌++◌, ap, subst, sym}
use Rattle.ecma_print.proofs.ObjectLemmas.{behind}
use Rattle.ecma_report.specs.Reports.{Adds, look_of}
use Rattle.ecma_report.specs.Rows.{whole_begin, whole_end, whole_part}
use Rattle.ecma_report.proofs.PartLemmas.{whole-in-parts}
use Rattle.ecma_report.proofs.ReportLemmas.{adds-held, adds-on, same-look, stays-on}
use Rattle.ecma_report.proofs.WholeLemmas.{whole-of-several}
use Rattle.ecma_report.proofs.report.Report.write_whole.Goals as goal

pub returns-then-self-clause-adds : goal.returns-then-self-clause-adds
returns-then-self-clause-adds g c =
    let report = c.args.self.now in
    let begun = c.begin_whole.new.self in
    let added = c.push_part.new.self in
    let held = report.out.items in
    let now = c.end_whole.new.self.out.items in
    let look = look_of report in
    let bytes = c.args.bytes.now in
    let begins = c.in_ok-begin_whole.ensures in
    let adds = c.in_ok-push_part.ensures in
    let part = adds.added ∙ ap (λ l. begun.out.items ++ whole_part l bytes) (same-look report begun begins.stays) in
    let end = c.in_ok-end_whole.ensures.added ∙ ap (λ l. added.out.items ++ whole_end l) (same-look report added (stays-on report begun added begins.stays adds.stays)) in
    adds-held (g.W.Write.contents c.args.out.now) held now _
    (behind held begun.out.items now (whole_begin look report.name.now) (whole_part look bytes ++ whole_end look) begins.added (behind begun.out.items added.out.items now (whole_part look bytes) (whole_end look) part end)
    ∙ ap (λ text. held ++ text) (whole-in-parts look report.name.now bytes))

pub returns-in_ok-write_behind-2-clause-adds : goal.returns-in_ok-write_behind-2-clause-adds
returns-in_ok-write_behind-2-clause-adds g c =
    let before = g.W.Write.contents c.args.out.now in
    let between = g.W.Write.contents c.write_behind.new.out in
    let after = g.W.Write.contents c.write_behind-then-self-2.new.out in
    let held = c.args.self.now.out.items in
    let now = c.write_behind-then-self-2.new.self.out.items in
    let several = sym (ap (λ m. m.several) c.in_ok-write_behind.ensures.stays.among) ∙ c.if-self-2.true in
    subst (Adds before after held now) (sym (whole-of-several (look_of c.args.self.now) c.args.self.now.name.now c.args.bytes.now c.if-self.false several))
    (adds-on before between after held c.write_behind.new.self.out.items now c.args.bytes.now (10 ∷ []) c.in_ok-write_behind.ensures.adds c.in_ok-write_behind-2.ensures.adds)
