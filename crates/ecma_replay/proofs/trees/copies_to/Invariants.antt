-- The errors on the way that is left, and then those that were copied, turned, are those on the way.
use Rattle.std.proofs.Common.{◌≡◌, ◌++◌, map, reverse}
use Rattle.ecma_token.specs.View.{error_view}
use Rattle.ecma_replay.specs.Playing.{list_to}
use Rattle.ecma_replay.proofs.trees.copies_to.Given as goal

abbrev pub invariant-errors : goal.invariant-errors
invariant-errors l =
    map error_view (list_to l.at l.fn.errors) ++ map error_view (reverse l.copies.items) ≡ map error_view (list_to l.fn.number l.fn.errors)

abbrev pub decreases-errors : goal.decreases-errors
decreases-errors l = l.at
