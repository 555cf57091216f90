use Rattle.ecma_report.proofs.ReportLemmas.{adds-behind}
use Rattle.ecma_report.proofs.report.Report.write_behind.Goals as goal

pub returns-clause-adds : goal.returns-clause-adds
returns-clause-adds g c =
    adds-behind (g.W.Write.contents c.args.out.now) (g.W.Write.contents c.flush.new.out) (g.W.Write.contents c.write_all.new.out)
    c.args.self.now.out.items c.flush.new.self.out.items c.args.bytes.now
    c.in_ok-flush.ensures.written c.in_ok-write_all.ensures c.in_ok-flush.ensures.none
