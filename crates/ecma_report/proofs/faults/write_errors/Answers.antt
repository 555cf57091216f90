use Rattle.std.proofs.Common.{◌≡◌, ◌∙◌, ◌||◌, [], ap, false, map, subst}
use Rattle.ecma_token.specs.View.{error_view}
use Rattle.ecma_options.specs.Begin.{begin}
use Rattle.ecma_faults.specs.Faults.{IsByPlace, view}
use Rattle.ecma_reader.specs.Readers.{Shows}
use Rattle.ecma_report.specs.Errors.{error_rows}
use Rattle.ecma_report.specs.FaultLines.{OfUnmet, has_fault}
use Rattle.ecma_report.specs.Reports.{Adds, writes_errors}
use Rattle.ecma_report.specs.Runs.{read_to}
use Rattle.ecma_report.specs.Slashes.{rule_at}
use Rattle.ecma_report.specs.Unmet.{unmet_by, unmet_told}
use Rattle.ecma_report.proofs.FaultLemmas.{errors-left, rows-no-lines, unmet-alone, unmet-of}
use Rattle.ecma_report.proofs.OrderLemmas.{fault-in-order}
use Rattle.ecma_report.proofs.ReportLemmas.{said-of, still-of}
use Rattle.ecma_report.proofs.faults.write_errors.Goals as goal

pub returns-clause-rows : goal.returns-clause-rows
returns-clause-rows g c = λ ask file bytes of face.
    let first = c.args.report.now in
    let unmet = c.tell_unmet.new.report in
    let last = c.tell_found.new.report in
    let rule = rule_at c.args.named in
    let begun = begin false ask.asked.options bytes in
    let s = read_to false c.args.named ask bytes in
    let outcome = c.finish-outcome.result in
    let found = c.in_ok-found.found.items in
    let before = g.W.Write.contents c.args.out.now in
    let after = g.W.Write.contents c.tell_found.new.out in
    let shows = said-of ask file bytes first (λ a n t. Shows rule (begin false a.asked.options t) [] c.in_ok-reader.reader) of c.in_ok-reader.ensures.shows in
    let passed = c.in_ok-pass_tokens.ensures in
    let none = c.new-errors.ensures.items in
    let has = passed.read rule begun shows none in
    let left = c.finish-outcome.ensures.left s has.at in
    let tokens = passed.kept rule begun shows none in
    let recorded = ap (map error_view) c.into_vec.ensures ∙ left.errors in
    let waiting = ap (map error_view) c.into_vec-2.ensures ∙ left.waiting in
    let all = errors-left s _ _ _ tokens recorded waiting in
    let here = still-of ask file bytes first unmet c.in_ok-tell_unmet.ensures.still of in
    let rows = c.in_ok-tell_found.ensures.rows ask file bytes here (ap (λ l. writes_errors l.asked.face) here.look ∙ face) in
    let told = subst (λ fs. Adds before after unmet.out.items last.out.items (error_rows ask file bytes (map view fs))) c.deref.ensures.value rows in
    record {
      ordered = map view found;
      by_place = subst (λ fs. IsByPlace fs (map view found)) all c.in_ok-found.ensures;
      holds = subst (λ items. Adds before after items last.out.items (error_rows ask file bytes (map view found))) (ap (λ v. v.items) c.in_ok-tell_unmet.ensures.out) told;
    }

pub returns-clause-lines : goal.returns-clause-lines
returns-clause-lines g c = λ ask file bytes of face.
    let first = c.args.report.now in
    let unmet = c.tell_unmet.new.report in
    let last = c.tell_found.new.report in
    let rule = rule_at c.args.named in
    let begun = begin false ask.asked.options bytes in
    let s = read_to false c.args.named ask bytes in
    let found = c.in_ok-found.found.items in
    let shows = said-of ask file bytes first (λ a n t. Shows rule (begin false a.asked.options t) [] c.in_ok-reader.reader) of c.in_ok-reader.ensures.shows in
    let passed = c.in_ok-pass_tokens.ensures in
    let none = c.new-errors.ensures.items in
    let has = passed.read rule begun shows none in
    let left = c.finish-outcome.ensures.left s has.at in
    let again = c.finish-outcome.ensures.rereads ∙ has.counted in
    let lines = subst (λ n. OfUnmet (unmet_told c.args.named ask file bytes n) false first unmet) again
    (unmet-of c.args.named ask file bytes _ first unmet of c.in_ok-tell_unmet.ensures.lines) in
    let recorded = ap (map error_view) c.into_vec.ensures ∙ left.errors in
    let waiting = ap (map error_view) c.into_vec-2.ensures ∙ left.waiting in
    let all = errors-left s _ _ _ (passed.kept rule begun shows none) recorded waiting in
    let here = still-of ask file bytes first unmet c.in_ok-tell_unmet.ensures.still of in
    let told = subst (λ fs. last.is_faulty ≡ (unmet.is_faulty || has_fault (map view fs))) c.deref.ensures.value c.in_ok-tell_found.ensures.faulty in
    let faulty = told ∙ ap (λ b. unmet.is_faulty || b) (fault-in-order _ (map view found) c.in_ok-found.ensures ∙ ap has_fault all) in
    unmet-alone (unmet_by false c.args.named ask file bytes) ask file bytes _ _ first unmet last (rows-no-lines ask.asked.face face) lines (c.in_ok-tell_found.ensures.lines ask file bytes here) faulty
