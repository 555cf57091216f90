-- The markup of the pieces so far was written or is held as parts, and that of the others is left.
use Rattle.std.proofs.Common.{◌≡◌, length}
use Rattle.ecma_html.specs.Marked.{AreInOrder}
use Rattle.ecma_html.specs.Parts.{left_html}
use Rattle.ecma_report.specs.Reports.{Stays, look_of}
use Rattle.ecma_report.specs.Rows.{whole_part}
use Rattle.ecma_faces.proofs.StreamLemmas.{Streams}
use Rattle.ecma_faces.proofs.html.write_markup.Given as goal

abbrev pub invariant-pieces : goal.invariant-pieces
invariant-pieces g l =
    Stays l.initial.report l.report
    × (l.markup.places ≡ l.initial.markup.places)
    × (AreInOrder l.initial.markup.places
    → Streams (g.W.Write.contents l.initial.out) (g.W.Write.contents l.out) l.initial.report.out.items l.report.out.items
    (whole_part (look_of l.initial.report) (left_html l.markup)) (whole_part (look_of l.initial.report) (left_html l.initial.markup)))

abbrev pub decreases-pieces : goal.decreases-pieces
decreases-pieces g l = length l.markup.pieces
