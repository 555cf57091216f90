use Rattle.std.proofs.Common.{◌≡◌, ◌∙◌, [], None, false, ap, length, map, subst, sym}
use Rattle.std.specs.Str.{chars}
use Rattle.ecma_token.specs.View.{error_view}
use Rattle.ecma_options.specs.Begin.{begin}
use Rattle.ecma_reader.specs.Readers.{Shows, end_by, tokens_by}
use Rattle.ecma_report.specs.Reports.{Adds, IsOf, writes_errors}
use Rattle.ecma_report.specs.Runs.{read_to}
use Rattle.ecma_report.specs.Slashes.{rule_at}
use Rattle.ecma_faces.specs.Canonical.{Counted, joined, reads_clean}
use Rattle.ecma_faces.specs.Tokens.{begun}
use Rattle.ecma_faces.specs.Whole.{OfCanon, canon_written, is_too_long_behind, plainly, steps_by}
use Rattle.ecma_faces.proofs.CanonicalLemmas.{clean-told}
use Rattle.ecma_faces.proofs.FaultLemmas.{faults-read}
use Rattle.ecma_report.proofs.ReportLemmas.{adds-on, keeps-same, said-of, still-of}
use Rattle.ecma_faces.proofs.canonical.write_canonical.Goals as goal

pub write_measured-requires-clause-same : goal.write_measured-requires-clause-same
write_measured-requires-clause-same g c = sym c.in_ok-tell_errors.ensures.still.text

pub returns-clause-told : goal.returns-clause-told
returns-clause-told g c = λ ask file bytes of face.
    let first = c.args.report.now in
    let told = c.tell_errors.new.report in
    let last = c.write_measured.new.report in
    let rule = rule_at c.args.named in
    let start = begun ask.asked bytes in
    let before = g.W.Write.contents c.args.out.now in
    let between = g.W.Write.contents c.tell_errors.new.out in
    let after = g.W.Write.contents c.write_measured.new.out in
    let seen = c.in_ok-tokens.tokens in
    let outcome = c.finish-outcome.result in
    let shows = said-of ask file bytes first (λ a n t. Shows rule (begin false a.asked.options t) [] c.in_ok-reader.reader) of c.in_ok-reader.ensures.shows in
    let read = c.in_ok-tokens.ensures.read rule start shows in
    let left = c.finish-outcome.ensures.left (end_by rule start) read.at in
    let clean = c.and-measured.ensures.clean ∙ clean-told rule ask bytes outcome seen.clean c.is_empty.result (c.in_ok-tokens.ensures.clean rule start shows) left read.ended c.is_empty.ensures in
    let counted_here = subst (λ t. Counted seen.bytes (length (joined t None (tokens_by rule start)))) of.text (c.in_ok-tokens.ensures.counted rule start shows) in
    let counted = subst (λ m. Counted m (length (joined bytes None (tokens_by rule start)))) (sym c.and-measured.ensures.bytes) counted_here in
    let here = still-of ask file bytes first told c.in_ok-tell_errors.ensures.still of in
    let nothing = c.in_ok-tell_errors.ensures.adds (ap (λ l. writes_errors l.asked.face) of.look ∙ face) in
    let measured = c.and-measured.result in
    let written = subst (λ t. IsOf ask file t told → measured.clean ≡ reads_clean rule ask t → Counted measured.bytes (length (joined t None (tokens_by rule (begun ask.asked t))))
    → OfCanon ask file (plainly ask) (chars t) (steps_by rule ask t) told.is_too_long last.is_too_long (λ all. Adds between after told.out.items last.out.items all)) of.text (c.in_ok-write_measured.ensures.told ask file) here clean counted in
    record {
      told = written.told;
      is_told = written.is_told;
      too_long = written.too_long ∙ ap (λ b. is_too_long_behind b written.told) c.in_ok-tell_errors.ensures.still.too_long;
      holds = adds-on before between after first.out.items told.out.items last.out.items [] (canon_written ask file written.told) nothing written.holds;
    }

pub returns-clause-lines : goal.returns-clause-lines
returns-clause-lines g c = λ ask file bytes of.
    let first = c.args.report.now in
    let rule = rule_at c.args.named in
    let start = begun ask.asked bytes in
    let shows = said-of ask file bytes first (λ a n t. Shows rule (begin false a.asked.options t) [] c.in_ok-reader.reader) of c.in_ok-reader.ensures.shows in
    let passed = c.in_ok-tokens.ensures in
    let has = passed.read rule start shows in
    let left = c.finish-outcome.ensures.left (read_to false c.args.named ask bytes) has.at in
    faults-read c.args.named ask file bytes _ _ (read_to false c.args.named ask bytes) _ _ first first c.tell_errors.new.report c.write_measured.new.report
    (c.finish-outcome.ensures.rereads ∙ has.counted) (passed.kept rule start shows c.new-errors.ensures.items) (ap (map error_view) c.into_vec-recorded.ensures ∙ left.errors) (keeps-same first) c.in_ok-write_measured.ensures.faults (c.in_ok-tell_errors.ensures.lines ask file bytes of)
