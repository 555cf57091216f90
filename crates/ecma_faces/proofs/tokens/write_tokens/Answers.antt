use Rattle.std.proofs.Common.{◌∙◌, [], None, false, append-nil, ap, map, subst}
use Rattle.ecma_token.specs.View.{error_view}
use Rattle.ecma_options.specs.Begin.{begin}
use Rattle.ecma_reader.specs.Readers.{Shows, tokens_by}
use Rattle.ecma_report.specs.Reports.{Adds, writes_errors}
use Rattle.ecma_report.specs.Runs.{read_to}
use Rattle.ecma_report.specs.Slashes.{rule_at}
use Rattle.ecma_faces.specs.Tokens.{begun, token_rows}
use Rattle.ecma_report.proofs.ReportLemmas.{adds-on, keeps-faults, keeps-same, said-of, stays-of}
use Rattle.ecma_faces.proofs.FaultLemmas.{faults-read}
use Rattle.ecma_faces.proofs.tokens.write_tokens.Goals as goal

pub tell_errors-requires : goal.tell_errors-requires
tell_errors-requires g c = rw c.in_ok-read_tokens.ensures.stays.text c.requires

pub returns-clause-adds : goal.returns-clause-adds
returns-clause-adds g c = λ ask file bytes of face.
    let first = c.args.report.now in
    let read = c.read_tokens.new.report in
    let last = c.tell_errors.new.report in
    let rule = rule_at c.args.named in
    let rows = token_rows ask file bytes None (tokens_by rule (begun ask.asked bytes)) in
    let before = g.W.Write.contents c.args.out.now in
    let between = g.W.Write.contents c.read_tokens.new.out in
    let after = g.W.Write.contents c.tell_errors.new.out in
    let shows = said-of ask file bytes first (λ a n t. Shows rule (begin false a.asked.options t) [] c.in_ok-reader.reader) of c.in_ok-reader.ensures.shows in
    let told = c.in_ok-read_tokens.ensures.rows rule (begun ask.asked bytes) ask file bytes shows of in
    let here = stays-of ask file bytes first read c.in_ok-read_tokens.ensures.stays of in
    let behind = c.in_ok-tell_errors.ensures.adds (ap (λ l. writes_errors l.asked.face) here.look ∙ face) in
    subst (Adds before after first.out.items last.out.items) (append-nil rows) (adds-on before between after first.out.items read.out.items last.out.items rows [] told behind)

pub returns-clause-lines : goal.returns-clause-lines
returns-clause-lines g c = λ ask file bytes of.
    let first = c.args.report.now in
    let read = c.read_tokens.new.report in
    let last = c.tell_errors.new.report in
    let rule = rule_at c.args.named in
    let start = begun ask.asked bytes in
    let shows = said-of ask file bytes first (λ a n t. Shows rule (begin false a.asked.options t) [] c.in_ok-reader.reader) of c.in_ok-reader.ensures.shows in
    let passed = c.in_ok-read_tokens.ensures in
    let none = c.new-errors.ensures.items in
    let has = passed.read rule start shows none in
    let left = c.finish-outcome.ensures.left (read_to false c.args.named ask bytes) has.at in
    let told = c.in_ok-tell_errors.ensures.lines ask file bytes (stays-of ask file bytes first read passed.stays of) in
    faults-read c.args.named ask file bytes _ _ (read_to false c.args.named ask bytes) _ _ first read last last
    (c.finish-outcome.ensures.rereads ∙ has.counted) (passed.kept rule start shows none) (ap (map error_view) c.into_vec-recorded.ensures ∙ left.errors) (keeps-faults first read passed.stays) (keeps-same last) told
