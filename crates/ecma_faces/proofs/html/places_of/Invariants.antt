-- The places so far are those of the first errors.
use Rattle.std.proofs.Common.{◌≡◌, map, take}
use Rattle.ecma_faults.specs.Faults.{view}
use Rattle.ecma_faces.specs.Whole.{places_of}
use Rattle.ecma_faces.proofs.html.places_of.Given as goal

abbrev pub invariant-found : goal.invariant-found
invariant-found l = l.places.items ≡ places_of (map view (take l.one-index l.found))
