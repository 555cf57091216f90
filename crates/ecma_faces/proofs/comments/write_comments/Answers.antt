use Rattle.std.proofs.Common.{◌∙◌, [], ap, map, subst, true}
use Rattle.ecma_token.specs.View.{error_view}
use Rattle.ecma_options.specs.Begin.{begin}
use Rattle.ecma_reader.specs.Readers.{Shows}
use Rattle.ecma_faces.specs.Comments.{comment_rows, comments_by}
use Rattle.ecma_report.specs.Reports.{Adds, writes_errors}
use Rattle.ecma_report.specs.Runs.{read_to}
use Rattle.ecma_report.specs.Slashes.{rule_at}
use Rattle.ecma_report.proofs.ReportLemmas.{adds-on, keeps-faults, keeps-same, said-of, still-of}
use Rattle.ecma_faces.proofs.FaultLemmas.{faults-read}
use Rattle.ecma_faces.proofs.comments.write_comments.Goals as goal

pub returns-clause-adds : goal.returns-clause-adds
returns-clause-adds g c = λ ask file bytes of face.
    let first = c.args.report.now in
    let told = c.tell_errors.new.report in
    let last = c.push_comments.new.report in
    let rule = rule_at c.args.named in
    let begun = begin true ask.asked.options bytes in
    let before = g.W.Write.contents c.args.out.now in
    let between = g.W.Write.contents c.tell_errors.new.out in
    let after = g.W.Write.contents c.push_comments.new.out in
    let shows = said-of ask file bytes first (λ a n t. Shows rule (begin true a.asked.options t) [] c.in_ok-reader.reader) of c.in_ok-reader.ensures.shows in
    let has = c.in_ok-pass_tokens.ensures.read rule begun shows c.new-errors.ensures.items in
    let left = c.finish-recorded.ensures.left (read_to true c.args.named ask bytes) has.at in
    let here = still-of ask file bytes first told c.in_ok-tell_errors.ensures.still of in
    let nothing = c.in_ok-tell_errors.ensures.adds (ap (λ l. writes_errors l.asked.face) of.look ∙ face) in
    let rows = subst (λ comments. Adds between after told.out.items last.out.items (comment_rows ask file bytes comments)) (c.deref.ensures.value ∙ left.comments) (c.in_ok-push_comments.ensures.adds ask file bytes here) in
    adds-on before between after first.out.items told.out.items last.out.items [] (comment_rows ask file bytes (comments_by c.args.named ask bytes)) nothing rows

pub returns-clause-lines : goal.returns-clause-lines
returns-clause-lines g c = λ ask file bytes of.
    let first = c.args.report.now in
    let rule = rule_at c.args.named in
    let start = begin true ask.asked.options bytes in
    let shows = said-of ask file bytes first (λ a n t. Shows rule (begin true a.asked.options t) [] c.in_ok-reader.reader) of c.in_ok-reader.ensures.shows in
    let passed = c.in_ok-pass_tokens.ensures in
    let none = c.new-errors.ensures.items in
    let has = passed.read rule start shows none in
    let left = c.finish-recorded.ensures.left (read_to true c.args.named ask bytes) has.at in
    let told = c.tell_errors.new.report in
    let last = c.push_comments.new.report in
    faults-read c.args.named ask file bytes _ _ (read_to true c.args.named ask bytes) _ _ first first told last
    (c.finish-recorded.ensures.rereads ∙ has.counted) (passed.kept rule start shows none) (ap (map error_view) c.into_vec.ensures ∙ left.errors) (keeps-same first) (keeps-faults told last c.in_ok-push_comments.ensures.stays) (c.in_ok-tell_errors.ensures.lines ask file bytes of)
