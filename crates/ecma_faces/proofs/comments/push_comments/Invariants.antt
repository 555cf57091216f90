-- The rows of the first comments were written or are held.
use Rattle.std.proofs.Common.{ℕ, List, take}
use Rattle.std.specs.Prelude.{flat_map}
use Rattle.ecma_faces.specs.Comments.{comment_row}
use Rattle.ecma_report.specs.Reports.{Adds, IsOf, Stays}
use Rattle.ecma_report.specs.Rows.{Look}
use Rattle.ecma_faces.proofs.comments.push_comments.Given as goal

abbrev pub invariant-comments : goal.invariant-comments
invariant-comments g l =
    Stays l.initial.report l.report
    × ((ask : Look) (file bytes : List ℕ) → IsOf ask file bytes l.initial.report
    → Adds (g.W.Write.contents l.initial.out) (g.W.Write.contents l.out) l.initial.report.out.items l.report.out.items (flat_map (comment_row ask file bytes) (take l.buffered-index l.comments)))
