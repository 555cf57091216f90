-- The parts so far, and those of the pieces that are left, are all.
use Rattle.std.proofs.Common.{◌≡◌, ◌++◌, drop}
use Rattle.ecma_styles.specs.Styles.{styled}
use Rattle.ecma_looks.specs.Looks as looks
use Rattle.ecma_looks.proofs.parts.parts_of.Given as goal

abbrev pub invariant-loop-piece : goal.invariant-loop-piece
invariant-loop-piece l =
    l.parts.items ++ looks.parts_of (styled (drop l.taken l.classes) (drop l.piece-index l.pieces)) ≡ looks.parts_of (styled l.classes l.pieces)
