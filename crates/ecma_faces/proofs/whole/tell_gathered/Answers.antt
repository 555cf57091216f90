use Rattle.std.proofs.Common.{◌≡◌, ◌∙◌, ◌++◌, ◌||◌, [], ap, false, map, refl, subst, sym, true}
use Rattle.std.specs.Str.{chars}
use Rattle.ecma_token.specs.View.{error_view}
use Rattle.ecma_state.specs.Session.{kept_tokens}
use Rattle.ecma_options.specs.Begin as asks
use Rattle.ecma_reader.specs.Rereads.{rule_of}
use Rattle.ecma_classes.specs.Classes.{begin}
use Rattle.ecma_faults.specs.Faults.{IsByPlace, all_of, view}
use Rattle.ecma_looks.specs.Shown.{IsShown}
use Rattle.ecma_looks.specs.Covered.{MayBeCovered}
use Rattle.ecma_looks.proofs.CoveredLemmas.{gathered_may_be_covered}
use Rattle.ecma_reader.specs.Outputs.{error_tokens}
use Rattle.ecma_faces.specs.Pieces.{piece_rows, pieces_by}
use Rattle.ecma_faces.specs.Whole.{html_written, places_of, shown_head}
use Rattle.ecma_report.specs.FaultLines.{OfUnmet, has_fault, told_faults}
use Rattle.ecma_report.specs.Reports.{Adds, writes_errors}
use Rattle.ecma_report.specs.Rows.{whole_text}
use Rattle.ecma_report.specs.Runs.{read_to}
use Rattle.ecma_report.specs.Unmet.{unmet_by, unmet_told}
use Rattle.ecma_html.specs.Marked.{AreInOrder}
use Rattle.ecma_faces.proofs.WholeLemmas.{places-in-order}
use Rattle.ecma_faces.proofs.ReadLemmas.{comments-asked, kept-asked, pieces-asked, read-as-asked, recorded-asked, refusals-asked, rereads-asked}
use Rattle.ecma_report.proofs.FaultLemmas.{unmet-alone, unmet-as, unmet-first, unmet-of}
use Rattle.ecma_report.proofs.OrderLemmas.{fault-in-order}
use Rattle.ecma_faces.proofs.FaultLemmas.{faults-read}
use Rattle.ecma_report.proofs.ReportLemmas.{adds-on, keeps-faults, keeps-same, still-of}
use Rattle.ecma_faces.proofs.whole.tell_gathered.Goals as goal

pub write_gathered-requires-clause-fits : goal.write_gathered-requires-clause-fits
write_gathered-requires-clause-fits g c = rw (c.in_ok-tell_found.ensures.still.text ∙ c.in_ok-tell_unmet.ensures.still.text) c.requires

pub write_gathered-requires-clause-covered : goal.write_gathered-requires-clause-covered
write_gathered-requires-clause-covered g c =
    let same = c.in_ok-tell_found.ensures.still.text ∙ c.in_ok-tell_unmet.ensures.still.text in
    let gathered = c.in_ok-read.read.gathered in
    subst (λ t. MayBeCovered (begin 0 (chars t)) gathered.kept.items gathered.comments.items) (sym same)
    (gathered_may_be_covered _ (begin 0 (chars c.args.report.now.text.now)) _ gathered gathered.kept.items gathered.comments.items c.in_ok-read.ensures.gathers refl refl)

pub returns : goal.returns
returns g c = record {
  classes = λ ask file bytes of face.
      let first = c.args.report.now in
      let unmet = c.tell_unmet.new.report in
      let told = c.tell_found.new.report in
      let last = c.write_gathered.new.report in
      let named = c.args.named in
      let read = c.in_ok-read.read in
      let before = g.W.Write.contents c.args.out.now in
      let between = g.W.Write.contents c.tell_found.new.out in
      let after = g.W.Write.contents c.write_gathered.new.out in
      let there = still-of ask file bytes first unmet c.in_ok-tell_unmet.ensures.still of in
      let here = still-of ask file bytes unmet told c.in_ok-tell_found.ensures.still there in
      let quiet = c.in_ok-tell_found.ensures.adds (ap (λ l. writes_errors l.asked.face) there.look ∙ ap writes_errors face) in
      let nothing = subst (λ items. Adds before between items told.out.items []) (ap (λ v. v.items) c.in_ok-tell_unmet.ensures.out) quiet in
      let asked = ap (λ l. l.asked) of.look in
      let is = read-as-asked true named ask bytes first.text.now (rule_of c.slashes_at-slashes.result) c.settings-settings.result c.context-context.result read
      c.slashes_at-slashes.ensures.rule (c.settings-settings.ensures ∙ ap (λ a. asks.settings true a.options) asked) (c.context-context.ensures ∙ ap (λ a. asks.context a.options) asked) of.text c.in_ok-read.ensures in
      let rows = subst (λ ps. Adds between after told.out.items last.out.items (piece_rows ask file bytes ps)) (pieces-asked named ask bytes read is) (c.in_ok-write_gathered.ensures.classes ask file bytes here face) in
      adds-on before between after first.out.items told.out.items last.out.items [] (piece_rows ask file bytes (pieces_by named ask bytes)) nothing rows;
  html = λ ask file bytes of face.
      let first = c.args.report.now in
      let unmet = c.tell_unmet.new.report in
      let told = c.tell_found.new.report in
      let last = c.write_gathered.new.report in
      let named = c.args.named in
      let read = c.in_ok-read.read in
      let s = read_to true named ask bytes in
      let before = g.W.Write.contents c.args.out.now in
      let between = g.W.Write.contents c.tell_found.new.out in
      let after = g.W.Write.contents c.write_gathered.new.out in
      let there = still-of ask file bytes first unmet c.in_ok-tell_unmet.ensures.still of in
      let here = still-of ask file bytes unmet told c.in_ok-tell_found.ensures.still there in
      let quiet = c.in_ok-tell_found.ensures.adds (ap (λ l. writes_errors l.asked.face) there.look ∙ ap writes_errors face) in
      let nothing = subst (λ items. Adds before between items told.out.items []) (ap (λ v. v.items) c.in_ok-tell_unmet.ensures.out) quiet in
      let asked = ap (λ l. l.asked) of.look in
      let is = read-as-asked true named ask bytes first.text.now (rule_of c.slashes_at-slashes.result) c.settings-settings.result c.context-context.result read
      c.slashes_at-slashes.ensures.rule (c.settings-settings.ensures ∙ ap (λ a. asks.settings true a.options) asked) (c.context-context.ensures ∙ ap (λ a. asks.context a.options) asked) of.text c.in_ok-read.ensures in
      let found = c.in_ok-found.found.items in
      let own_recorded = map error_view c.into_vec.result.items in
      let own_waiting = map error_view c.new-waiting.result.items in
      let recorded = ap (map error_view) c.into_vec.ensures ∙ c.in_ok-recorded.ensures ∙ recorded-asked named ask bytes read is in
      let waiting = ap (map error_view) c.new-waiting.ensures.items in
      let all = ap (λ es. all_of es own_recorded own_waiting) (refusals-asked named ask bytes read is) ∙ ap (λ es. all_of (error_tokens s) es own_waiting) recorded ∙ ap (λ es. all_of (error_tokens s) s.errors.recorded es) waiting in
      let ordered = c.in_ok-found.ensures in
      let in_order = subst (λ fs. AreInOrder (places_of (map view fs))) (sym c.deref-2.ensures.value) (places-in-order (map view found) ordered.order) in
      let marked = subst (λ fs. Adds between after told.out.items last.out.items (html_written ask file bytes read.gathered.kept.items read.gathered.comments.items (map view fs))) c.deref-2.ensures.value (c.in_ok-write_gathered.ensures.html ask file bytes here face in_order) in
      let with_kept = subst (λ k. Adds between after told.out.items last.out.items (html_written ask file bytes k read.gathered.comments.items (map view found))) (kept-asked named ask bytes read is) marked in
      let written = subst (λ cs. Adds between after told.out.items last.out.items (html_written ask file bytes (kept_tokens s) cs (map view found))) (comments-asked named ask bytes read is) with_kept in
      record {
        ordered = map view found;
        by_place = subst (λ fs. IsByPlace fs (map view found)) all ordered;
        holds = adds-on before between after first.out.items told.out.items last.out.items [] (html_written ask file bytes (kept_tokens s) s.comments (map view found)) nothing written;
      };
  shown = λ ask file bytes of face.
      let first = c.args.report.now in
      let unmet = c.tell_unmet.new.report in
      let told = c.tell_found.new.report in
      let last = c.write_gathered.new.report in
      let named = c.args.named in
      let read = c.in_ok-read.read in
      let s = read_to true named ask bytes in
      let found = c.in_ok-found.found.items in
      let own_recorded = map error_view c.into_vec.result.items in
      let own_waiting = map error_view c.new-waiting.result.items in
      let before = g.W.Write.contents c.args.out.now in
      let between = g.W.Write.contents c.tell_found.new.out in
      let after = g.W.Write.contents c.write_gathered.new.out in
      let there = still-of ask file bytes first unmet c.in_ok-tell_unmet.ensures.still of in
      let here = still-of ask file bytes unmet told c.in_ok-tell_found.ensures.still there in
      let quiet = c.in_ok-tell_found.ensures.adds (ap (λ l. writes_errors l.asked.face) there.look ∙ ap writes_errors face) in
      let nothing = subst (λ items. Adds before between items told.out.items []) (ap (λ v. v.items) c.in_ok-tell_unmet.ensures.out) quiet in
      let asked = ap (λ l. l.asked) of.look in
      let is = read-as-asked true named ask bytes first.text.now (rule_of c.slashes_at-slashes.result) c.settings-settings.result c.context-context.result read
      c.slashes_at-slashes.ensures.rule (c.settings-settings.ensures ∙ ap (λ a. asks.settings true a.options) asked) (c.context-context.ensures ∙ ap (λ a. asks.context a.options) asked) of.text c.in_ok-read.ensures in
      let recorded = ap (map error_view) c.into_vec.ensures ∙ c.in_ok-recorded.ensures ∙ recorded-asked named ask bytes read is in
      let waiting = ap (map error_view) c.new-waiting.ensures.items in
      let all = ap (λ es. all_of es own_recorded own_waiting) (refusals-asked named ask bytes read is) ∙ ap (λ es. all_of (error_tokens s) es own_waiting) recorded ∙ ap (λ es. all_of (error_tokens s) s.errors.recorded es) waiting in
      let lines = c.in_ok-write_gathered.ensures.shown ask file bytes here face in
      let with_errors = subst (λ fs. IsShown bytes read.gathered.kept.items read.gathered.comments.items (map view fs) ask.asked.colours lines.lines) c.deref-2.ensures.value lines.is_shown in
      let with_kept = subst (λ k. IsShown bytes k read.gathered.comments.items (map view found) ask.asked.colours lines.lines) (kept-asked named ask bytes read is) with_errors in
      record {
        ordered = map view found;
        by_place = subst (λ fs. IsByPlace fs (map view found)) all c.in_ok-found.ensures;
        of_lines = record {
          lines = lines.lines;
          is_shown = subst (λ cs. IsShown bytes (kept_tokens s) cs (map view found) ask.asked.colours lines.lines) (comments-asked named ask bytes read is) with_kept;
          holds = adds-on before between after first.out.items told.out.items last.out.items [] (shown_head ask file ++ whole_text ask file lines.lines) nothing lines.holds;
        };
      };
  lines = λ ask file bytes of.
      let first = c.args.report.now in
      let unmet = c.tell_unmet.new.report in
      let after = c.tell_found.new.report in
      let last = c.write_gathered.new.report in
      let named = c.args.named in
      let read = c.in_ok-read.read in
      let s = read_to true named ask bytes in
      let there = still-of ask file bytes first unmet c.in_ok-tell_unmet.ensures.still of in
      let asked = ap (λ l. l.asked) of.look in
      let is = read-as-asked true named ask bytes first.text.now (rule_of c.slashes_at-slashes.result) c.settings-settings.result c.context-context.result read
      c.slashes_at-slashes.ensures.rule (c.settings-settings.ensures ∙ ap (λ a. asks.settings true a.options) asked) (c.context-context.ensures ∙ ap (λ a. asks.context a.options) asked) of.text c.in_ok-read.ensures in
      let found = map view c.in_ok-found.found.items in
      let own_recorded = map error_view c.into_vec.result.items in
      let waiting = ap (map error_view) c.new-waiting.ensures.items in
      let recorded = ap (map error_view) c.into_vec.ensures ∙ c.in_ok-recorded.ensures ∙ recorded-asked named ask bytes read is in
      let by_place = subst (λ es. IsByPlace (all_of (map error_view read.refusals.items) own_recorded es) found) waiting c.in_ok-found.ensures in
      let told = subst (λ fs. after.faults.items ≡ unmet.faults.items ++ told_faults ask file bytes (map view fs)) c.deref.ensures.value (c.in_ok-tell_found.ensures.lines ask file bytes there) in
      let faulty = subst (λ fs. after.is_faulty ≡ (unmet.is_faulty || has_fault (map view fs))) c.deref.ensures.value c.in_ok-tell_found.ensures.faulty in
      faults-read named ask file bytes _ _ s (map error_view read.refusals.items) own_recorded first first after last
      (rereads-asked named ask bytes read is) (refusals-asked named ask bytes read is) recorded (keeps-same first) (keeps-faults after last c.in_ok-write_gathered.ensures.stays)
      (unmet-first _ ask file bytes (all_of (map error_view read.refusals.items) own_recorded []) found first unmet after by_place (unmet-of named ask file bytes _ first unmet of c.in_ok-tell_unmet.ensures.lines) told faulty);
  unmet = λ ask file bytes of face.
      let first = c.args.report.now in
      let unmet = c.tell_unmet.new.report in
      let after = c.tell_found.new.report in
      let last = c.write_gathered.new.report in
      let named = c.args.named in
      let read = c.in_ok-read.read in
      let s = read_to true named ask bytes in
      let there = still-of ask file bytes first unmet c.in_ok-tell_unmet.ensures.still of in
      let asked = ap (λ l. l.asked) of.look in
      let is = read-as-asked true named ask bytes first.text.now (rule_of c.slashes_at-slashes.result) c.settings-settings.result c.context-context.result read
      c.slashes_at-slashes.ensures.rule (c.settings-settings.ensures ∙ ap (λ a. asks.settings true a.options) asked) (c.context-context.ensures ∙ ap (λ a. asks.context a.options) asked) of.text c.in_ok-read.ensures in
      let found = map view c.in_ok-found.found.items in
      let recorded = ap (map error_view) c.into_vec.ensures ∙ c.in_ok-recorded.ensures ∙ recorded-asked named ask bytes read is in
      let waiting = ap (map error_view) c.new-waiting.ensures.items in
      let all = ap (λ es. all_of es (map error_view c.into_vec.result.items) (map error_view c.new-waiting.result.items)) (refusals-asked named ask bytes read is)
      ∙ ap (λ es. all_of (error_tokens s) es (map error_view c.new-waiting.result.items)) recorded
      ∙ ap (all_of (error_tokens s) s.errors.recorded) waiting in
      let told = subst (λ fs. after.is_faulty ≡ (unmet.is_faulty || has_fault (map view fs))) c.deref.ensures.value c.in_ok-tell_found.ensures.faulty in
      let faulty = told ∙ ap (λ b. unmet.is_faulty || b) (fault-in-order _ found c.in_ok-found.ensures ∙ ap has_fault all) in
      let lines = subst (λ n. OfUnmet (unmet_told named ask file bytes n) false first unmet) (rereads-asked named ask bytes read is) (unmet-of named ask file bytes _ first unmet of c.in_ok-tell_unmet.ensures.lines) in
      unmet-as (unmet_by true named ask file bytes) _ _ first after last refl (keeps-faults after last c.in_ok-write_gathered.ensures.stays)
      (unmet-alone _ ask file bytes _ _ first unmet after face lines (c.in_ok-tell_found.ensures.lines ask file bytes there) faulty);
}
