-- The pieces so far, and those to come, are all.
use Rattle.std.proofs.Common.{◌≡◌, ◌++◌, length}
use Rattle.ecma_classes.proofs.cover.classes.Given as goal

abbrev pub invariant-pieces : goal.invariant-pieces
invariant-pieces l = l.pieces.items ++ l.cover ≡ l.initial.cover

abbrev pub decreases-pieces : goal.decreases-pieces
decreases-pieces l = length l.cover
