-- The rows of the first imports were written or are held.
use Rattle.std.proofs.Common.{ℕ, List, take}
use Rattle.std.specs.Prelude.{flat_map}
use Rattle.ecma_faces.specs.Modules.{import_row}
use Rattle.ecma_report.specs.Reports.{Adds, IsOf, Stays}
use Rattle.ecma_report.specs.Rows.{Look}
use Rattle.ecma_faces.proofs.imports.push_imports.Given as goal

abbrev pub invariant-imports : goal.invariant-imports
invariant-imports g l =
    Stays l.initial.report l.report
    × ((ask : Look) (file bytes : List ℕ) → IsOf ask file bytes l.initial.report
    → Adds (g.W.Write.contents l.initial.out) (g.W.Write.contents l.out) l.initial.report.out.items l.report.out.items (flat_map (import_row ask file bytes) (take l.import-index l.imports)))
