use Rattle.std.proofs.Common.{◌++◌, [], None, false, subst}
use Rattle.ecma_options.specs.Begin.{begin}
use Rattle.ecma_reader.specs.Readers.{Shows, tokens_by}
use Rattle.ecma_report.specs.Reports.{Adds}
use Rattle.ecma_report.specs.Rows.{whole_begin, whole_end, whole_part}
use Rattle.ecma_report.specs.Slashes.{rule_at}
use Rattle.ecma_faces.specs.Canonical.{joined}
use Rattle.ecma_faces.specs.Tokens.{begun}
use Rattle.ecma_report.proofs.PartLemmas.{whole-in-parts}
use Rattle.ecma_report.proofs.ReportLemmas.{adds-held, adds-on, said-of, stays-of}
use Rattle.ecma_faces.proofs.canonical.write_clean.Goals as goal

pub returns-clause-adds : goal.returns-clause-adds
returns-clause-adds g c = λ ask file bytes of.
    let first = c.args.report.now in
    let opened = c.begin_whole.new.self in
    let written = c.write_tokens_joined.new.report in
    let last = c.end_whole.new.self in
    let rule = rule_at c.args.named in
    let own = joined bytes None (tokens_by rule (begun ask.asked bytes)) in
    let before = g.W.Write.contents c.args.out.now in
    let after = g.W.Write.contents c.write_tokens_joined.new.out in
    let shows = said-of ask file bytes first (λ a n t. Shows rule (begin false a.asked.options t) [] c.in_ok-reader.reader) of c.in_ok-reader.ensures.shows in
    let there = stays-of ask file bytes first opened c.in_ok-begin_whole.ensures.stays of in
    let here = stays-of ask file bytes opened written c.in_ok-write_tokens_joined.ensures.stays there in
    let front = said-of ask file bytes first (λ a n t. Adds before before first.out.items opened.out.items (whole_begin a n)) of (adds-held before first.out.items opened.out.items _ c.in_ok-begin_whole.ensures.added) in
    let told = c.in_ok-write_tokens_joined.ensures.joined rule (begun ask.asked bytes) ask file bytes shows there in
    let back = said-of ask file bytes written (λ a n t. Adds after after written.out.items last.out.items (whole_end a)) here (adds-held after written.out.items last.out.items _ c.in_ok-end_whole.ensures.added) in
    let behind = adds-on before after after opened.out.items written.out.items last.out.items (whole_part ask own) (whole_end ask) told back in
    subst (Adds before after first.out.items last.out.items) (whole-in-parts ask file own)
    (adds-on before before after first.out.items opened.out.items last.out.items (whole_begin ask file) (whole_part ask own ++ whole_end ask) front behind)
