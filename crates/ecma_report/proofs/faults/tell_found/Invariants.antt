-- Where errors are no rows, nothing was added; where they are, the rows of the first. Their lines, where they have such. And
-- whether there is a fault among them.
use Rattle.std.proofs.Common.{◌≡◌, ◌++◌, ◌||◌, ℕ, List, [], false, take, true}
use Rattle.std.specs.List.{list_any}
use Rattle.std.specs.Prelude.{flat_map}
use Rattle.ecma_faults.specs.Faults.{view}
use Rattle.ecma_report.specs.Errors.{error_row}
use Rattle.ecma_report.specs.FaultLines.{is_fault, told_fault}
use Rattle.ecma_report.specs.Reports.{Adds, IsOf, IsStill, writes_errors}
use Rattle.ecma_report.specs.Rows.{Look}
use Rattle.ecma_report.proofs.faults.tell_found.Given as goal

abbrev pub invariant-found : goal.invariant-found
invariant-found g l =
    IsStill l.initial.report l.report
    × ((writes_errors l.initial.report.asked.face ≡ false → Adds (g.W.Write.contents l.initial.out) (g.W.Write.contents l.out) l.initial.report.out.items l.report.out.items [])
    × (l.report.is_faulty ≡ (l.initial.report.is_faulty || list_any (λ one. is_fault one.origin) (take l.one-index l.found))
    × (((ask : Look) (file bytes : List ℕ) → IsOf ask file bytes l.initial.report → writes_errors l.initial.report.asked.face ≡ true
    → Adds (g.W.Write.contents l.initial.out) (g.W.Write.contents l.out) l.initial.report.out.items l.report.out.items (flat_map (λ one. error_row ask file bytes (view one)) (take l.one-index l.found)))
    × ((ask : Look) (file bytes : List ℕ) → IsOf ask file bytes l.initial.report
    → l.report.faults.items ≡ l.initial.report.faults.items ++ flat_map (λ one. told_fault ask file bytes (view one)) (take l.one-index l.found)))))
