-- The rows of the pieces so far were written or are held, and those of the others are left.
use Rattle.std.proofs.Common.{ℕ, List, length}
use Rattle.ecma_faces.specs.Pieces.{piece_rows}
use Rattle.ecma_report.specs.Reports.{IsOf, Stays}
use Rattle.ecma_report.specs.Rows.{Look}
use Rattle.ecma_faces.proofs.StreamLemmas.{Streams}
use Rattle.ecma_faces.proofs.whole.push_pieces.Given as goal

abbrev pub invariant-pieces : goal.invariant-pieces
invariant-pieces g l =
    Stays l.initial.report l.report
    × ((ask : Look) (file bytes : List ℕ) → IsOf ask file bytes l.initial.report
    → Streams (g.W.Write.contents l.initial.out) (g.W.Write.contents l.out) l.initial.report.out.items l.report.out.items (piece_rows ask file bytes l.cover) (piece_rows ask file bytes l.initial.cover))

abbrev pub decreases-pieces : goal.decreases-pieces
decreases-pieces g l = length l.cover
