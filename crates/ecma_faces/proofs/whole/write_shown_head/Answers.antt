use Rattle.std.proofs.Common.{◌∙◌, subst, sym}
use Rattle.ecma_report.specs.Reports.{Adds, look_of}
use Rattle.ecma_faces.proofs.WholeLemmas.{head-of-named}
use Rattle.ecma_faces.proofs.whole.write_shown_head.Goals as goal

pub returns-in_ok-write_behind-clause-adds : goal.returns-in_ok-write_behind-clause-adds
returns-in_ok-write_behind-clause-adds g c =
    let first = c.args.report.now in
    let adds = Adds (g.W.Write.contents c.args.out.now) (g.W.Write.contents c.write_behind.new.out) first.out.items c.write_behind.new.self.out.items in
    subst adds (c.deref.ensures.value ∙ c.in_ok-line.ensures ∙ sym (head-of-named (look_of first) first.name.now c.if-report.true c.if-not-report.true)) c.in_ok-write_behind.ensures.adds
