use Rattle.std.proofs.Common.{◌∙◌, [], ap, false, map}
use Rattle.ecma_token.specs.View.{error_view}
use Rattle.ecma_options.specs.Begin.{begin}
use Rattle.ecma_reader.specs.Readers.{Shows}
use Rattle.ecma_report.specs.Runs.{read_to}
use Rattle.ecma_report.specs.Slashes.{rule_at}
use Rattle.ecma_report.proofs.ReportLemmas.{keeps-same, said-of}
use Rattle.ecma_faces.proofs.FaultLemmas.{faults-read}
use Rattle.ecma_faces.proofs.imports.read_module.Goals as goal

pub returns-clause-lines : goal.returns-clause-lines
returns-clause-lines g c = λ ask file bytes of.
    let first = c.args.report.now in
    let last = c.tell_errors.new.report in
    let rule = rule_at c.args.named in
    let start = begin false ask.asked.options bytes in
    let shows = said-of ask file bytes first (λ a n t. Shows rule (begin false a.asked.options t) [] c.in_ok-reader.reader) of c.in_ok-reader.ensures.shows in
    let passed = c.in_ok-gather_tokens.ensures in
    let none = c.new-errors.ensures.items in
    let has = passed.read rule start shows none in
    let left = c.finish-outcome.ensures.left (read_to false c.args.named ask bytes) has.at in
    faults-read c.args.named ask file bytes _ _ (read_to false c.args.named ask bytes) _ _ first first last last
    (c.finish-outcome.ensures.rereads ∙ has.counted) (passed.kept rule start shows none) (ap (map error_view) c.into_vec-recorded.ensures ∙ left.errors) (keeps-same first) (keeps-same last) (c.in_ok-tell_errors.ensures.lines ask file bytes of)
