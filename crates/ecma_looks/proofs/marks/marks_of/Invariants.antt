-- Lines are counted in the text, and there is a mark for each error so far.
use Rattle.std.proofs.Common.{◌≡◌, map, take}
use Rattle.ecma_faults.specs.Faults.{view}
use Rattle.ecma_print.specs.Lines.{Counts}
use Rattle.ecma_looks.specs.Marks.{mark_view, marks_seen}
use Rattle.ecma_looks.proofs.marks.marks_of.Given as goal

abbrev pub invariant-loop-one : goal.invariant-loop-one
invariant-loop-one l =
    Counts l.text l.lines × (map mark_view l.all.items ≡ marks_seen l.text (map view (take l.one-index l.found)))
