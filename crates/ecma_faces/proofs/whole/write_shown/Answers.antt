use Rattle.std.proofs.Common.{map, subst}
use Rattle.ecma_faults.specs.Faults.{view}
use Rattle.ecma_looks.specs.Shown.{IsShown}
use Rattle.ecma_faces.specs.Whole.{shown_head}
use Rattle.ecma_report.specs.Reports.{Adds, look_of}
use Rattle.ecma_report.specs.Rows.{whole_text}
use Rattle.ecma_report.proofs.ReportLemmas.{adds-on, said-of, stays-of}
use Rattle.ecma_faces.proofs.whole.write_shown.Goals as goal

pub returns-clause-adds : goal.returns-clause-adds
returns-clause-adds g c = λ ask file bytes of.
    let first = c.args.report.now in
    let named = c.write_shown_head.new.report in
    let last = c.write_whole.new.self in
    let kept = c.args.gathered.now.kept.items in
    let comments = c.args.gathered.now.comments.items in
    let errors = map view c.args.found.now in
    let lines = c.in_ok-lines.lines.items in
    let before = g.W.Write.contents c.args.out.now in
    let between = g.W.Write.contents c.write_shown_head.new.out in
    let after = g.W.Write.contents c.write_whole.new.out in
    let there = stays-of ask file bytes first named c.in_ok-write_shown_head.ensures.stays of in
    let head = said-of ask file bytes first (λ a n t. Adds before between first.out.items named.out.items (shown_head a n)) of c.in_ok-write_shown_head.ensures.adds in
    let written = subst (λ ls. Adds between after named.out.items last.out.items (whole_text (look_of named) named.name.now ls)) c.deref.ensures.value c.in_ok-write_whole.ensures.adds in
    let body = said-of ask file bytes named (λ a n t. Adds between after named.out.items last.out.items (whole_text a n lines)) there written in
    record {
      lines = lines;
      is_shown = said-of ask file bytes first (λ a n t. IsShown t kept comments errors a.asked.colours lines) of c.in_ok-lines.ensures;
      holds = adds-on before between after first.out.items named.out.items last.out.items (shown_head ask file) (whole_text ask file lines) head body;
    }
