-- What was added, and the errors that are left, are all.
use Rattle.std.proofs.Common.{◌≡◌, ◌++◌, map}
use Rattle.std.specs.Vec.Iter.{into_iter_items}
use Rattle.ecma_token.specs.View.{error_view}
use Rattle.ecma_faults.specs.Faults.{view, views_of}
use Rattle.ecma_faults.proofs.found.push_all.Given as goal

abbrev pub invariant-loop-error : goal.invariant-loop-error
invariant-loop-error l =
    map view l.found.items ++ views_of l.origin (map error_view (into_iter_items l.error-iterator)) ≡ map view l.fn.found.items ++ views_of l.origin (map error_view l.fn.errors.items)
