use Rattle.std.proofs.Common.{◌≡◌, ◌∙◌, ◌++◌, ◌||◌, [], append-nil, ap, subst, sym}
use Rattle.std.specs.List.{list_any}
use Rattle.std.specs.Prelude.{flat_map}
use Rattle.std.proofs.lemmas.List.{take_all}
use Rattle.std.proofs.lemmas.List.Folds.{flat_map-map}
use Rattle.std.proofs.Math.Bool.{or-false}
use Rattle.ecma_faults.specs.Faults.{view}
use Rattle.ecma_faults.specs.declared.found.Found.{Found}
use Rattle.ecma_report.specs.Errors.{error_row}
use Rattle.ecma_report.specs.FaultLines.{is_fault, told_fault}
use Rattle.ecma_report.specs.Reports.{Adds, writes_errors}
use Rattle.ecma_report.proofs.FaultLemmas.{fault-added, fault-seen}
use Rattle.ecma_report.proofs.ReportLemmas.{adds-none, adds-on, is-still, line-added, row-added, still-of, still-on, still-same}
use Rattle.ecma_report.proofs.faults.tell_found.Goals as goal

pub found-init : goal.found-init
found-init g c = (
  still-same c.args.report.now,
  (
    λ face. adds-none (g.W.Write.contents c.args.out.now) c.args.report.now.out.items,
    (
      sym (or-false c.args.report.now.is_faulty),
      (λ ask file bytes of face. adds-none (g.W.Write.contents c.args.out.now) c.args.report.now.out.items, λ ask file bytes of. sym (append-nil c.args.report.now.faults.items)),
    ),
  ),
)

pub found-preserved : goal.found-preserved
found-preserved g c =
    let begun = c.args.report.now in
    let here = c.found.report in
    let told = c.tell_error.new.report in
    let still = c.found.invariant.0 in (
      still-on begun told c.pass_on.new.self (still-on begun here told still c.tell_error.ensures.still) (is-still told c.pass_on.new.self c.in_ok-pass_on.ensures.stays),
      (
        λ face.
            let same = c.tell_error.ensures.out (ap (λ a. writes_errors a.face) still.asked ∙ face) in
            adds-on (g.W.Write.contents c.args.out.now) (g.W.Write.contents c.found.out) (g.W.Write.contents c.pass_on.new.out) begun.out.items here.out.items c.pass_on.new.self.out.items [] []
            (c.found.invariant.1.0 face)
            (subst (λ items. Adds (g.W.Write.contents c.found.out) (g.W.Write.contents c.pass_on.new.out) items c.pass_on.new.self.out.items []) (ap (λ v. v.items) same) c.in_ok-pass_on.ensures.adds),
        (
          fault-added c.args.found.now c.found.one-index _ begun.is_faulty here.is_faulty told.is_faulty c.pass_on.new.self.is_faulty c.found-test.true
              c.found.invariant.1.1.0
              (subst (λ one. told.is_faulty ≡ (here.is_faulty || is_fault one.origin)) c.one-item.is c.tell_error.ensures.faulty)
              c.in_ok-pass_on.ensures.stays.faulty,
          (
            λ ask file bytes of face.
                row-added (λ one. error_row ask file bytes (view one)) c.args.found.now c.found.one-index _
                (g.W.Write.contents c.args.out.now) (g.W.Write.contents c.found.out) (g.W.Write.contents c.pass_on.new.out)
                begun.out.items here.out.items told.out.items c.pass_on.new.self.out.items
                c.found-test.true
                (c.found.invariant.1.1.1.0 ask file bytes of face)
                (subst (λ one. told.out.items ≡ here.out.items ++ error_row ask file bytes (view one)) c.one-item.is (c.in_ok-tell_error.ensures.added ask file bytes (still-of ask file bytes begun here still of) (ap (λ a. writes_errors a.face) still.asked ∙ face)))
                c.in_ok-pass_on.ensures.adds,
            λ ask file bytes of.
                line-added (λ one. told_fault ask file bytes (view one)) c.args.found.now c.found.one-index _ begun.faults.items here.faults.items told.faults.items c.pass_on.new.self.faults.items c.found-test.true
                (c.found.invariant.1.1.1.1 ask file bytes of)
                (subst (λ one. told.faults.items ≡ here.faults.items ++ told_fault ask file bytes (view one)) c.one-item.is (c.in_ok-tell_error.ensures.line ask file bytes (still-of ask file bytes begun here still of)))
                c.in_ok-pass_on.ensures.stays.faults,
          ),
        ),
      ),
    )

pub returns-clause-adds : goal.returns-clause-adds
returns-clause-adds g c = λ face. c.found.invariant.1.0 face

pub returns-clause-rows : goal.returns-clause-rows
returns-clause-rows g c = λ ask file bytes of face.
    let row = λ (one : Found). error_row ask file bytes (view one) in
    let rows = subst (λ fs. Adds (g.W.Write.contents c.args.out.now) (g.W.Write.contents c.found.out) c.args.report.now.out.items c.found.report.out.items (flat_map row fs))
    (take_all c.found.one-index c.args.found.now c.found-test.false) (c.found.invariant.1.1.1.0 ask file bytes of face) in
    subst (Adds (g.W.Write.contents c.args.out.now) (g.W.Write.contents c.found.out) c.args.report.now.out.items c.found.report.out.items)
    (sym (flat_map-map (error_row ask file bytes) view c.args.found.now)) rows

pub returns-clause-lines : goal.returns-clause-lines
returns-clause-lines g c = λ ask file bytes of.
    let line = λ (one : Found). told_fault ask file bytes (view one) in
    subst (λ fs. c.found.report.faults.items ≡ c.args.report.now.faults.items ++ flat_map line fs) (take_all c.found.one-index c.args.found.now c.found-test.false) (c.found.invariant.1.1.1.1 ask file bytes of)
    ∙ ap (λ lines. c.args.report.now.faults.items ++ lines) (sym (flat_map-map (told_fault ask file bytes) view c.args.found.now))

pub returns-clause-faulty : goal.returns-clause-faulty
returns-clause-faulty g c =
    let q = λ (one : Found). is_fault one.origin in
    subst (λ fs. c.found.report.is_faulty ≡ (c.args.report.now.is_faulty || list_any q fs)) (take_all c.found.one-index c.args.found.now c.found-test.false) c.found.invariant.1.1.0
    ∙ ap (λ b. c.args.report.now.is_faulty || b) (fault-seen c.args.found.now)
