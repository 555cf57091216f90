use Rattle.std.proofs.Common.{◌≡◌, ◌++◌, ◌||◌, [], ap, map, subst}
use Rattle.ecma_token.specs.View.{error_view}
use Rattle.ecma_faults.specs.Faults.{IsByPlace, all_of, view}
use Rattle.ecma_report.specs.FaultLines.{has_fault, told_faults}
use Rattle.ecma_report.proofs.FaultLemmas.{unmet-first, unmet-of}
use Rattle.ecma_report.proofs.ReportLemmas.{still-of}
use Rattle.ecma_faces.proofs.errors.tell_errors.Goals as goal

pub returns-clause-lines : goal.returns-clause-lines
returns-clause-lines g c = λ ask file bytes of.
    let first = c.args.report.now in
    let unmet = c.tell_unmet.new.report in
    let last = c.tell_found.new.report in
    let found = map view c.in_ok-found.found.items in
    let tokens = map error_view c.args.tokens.items in
    let recorded = map error_view c.args.recorded.items in
    let there = still-of ask file bytes first unmet c.in_ok-tell_unmet.ensures.still of in
    let by_place = subst (λ es. IsByPlace (all_of tokens recorded es) found) (ap (map error_view) c.new-waiting.ensures.items) c.in_ok-found.ensures in
    let told = subst (λ fs. last.faults.items ≡ unmet.faults.items ++ told_faults ask file bytes (map view fs)) c.deref.ensures.value (c.in_ok-tell_found.ensures.lines ask file bytes there) in
    let faulty = subst (λ fs. last.is_faulty ≡ (unmet.is_faulty || has_fault (map view fs))) c.deref.ensures.value c.in_ok-tell_found.ensures.faulty in
    unmet-first _ ask file bytes (all_of tokens recorded []) found first unmet last by_place (unmet-of c.args.named ask file bytes _ first unmet of c.in_ok-tell_unmet.ensures.lines) told faulty
