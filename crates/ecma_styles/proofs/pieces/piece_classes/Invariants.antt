-- The classes so far, and those of the pieces that are left, are all.
use Rattle.std.proofs.Common.{◌≡◌, ◌++◌, drop, map}
use Rattle.ecma_styles.specs.Styles.{style_of, styled}
use Rattle.ecma_styles.proofs.pieces.piece_classes.Given as goal

abbrev pub invariant-loop-piece : goal.invariant-loop-piece
invariant-loop-piece l =
    l.styles.items ++ map style_of (styled (drop l.taken l.classes) (drop l.piece-index l.pieces)) ≡ map style_of (styled l.classes l.pieces)
