use Rattle.std.proofs.Common.{◌≡◌, ◌++◌, take}
use Rattle.ecma_show.specs.Shown.{all_marks}
use Rattle.ecma_show.proofs.numbered.push_marks.Given as goal

abbrev pub invariant-loop-mark : goal.invariant-loop-mark
invariant-loop-mark l = l.out.items ≡ l.fn.out.items ++ all_marks l.text l.frame (take l.mark-index l.marks)
