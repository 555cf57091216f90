-- The places so far are those of the first numbers.
use Rattle.std.proofs.Common.{◌≡◌, map, take}
use Rattle.ecma_rows.specs.Asked.{place_at}
use Rattle.ecma_rows.proofs.request.places.Given as goal

abbrev pub invariant-loop-number : goal.invariant-loop-number
invariant-loop-number l = l.places.items ≡ map place_at (take l.number-index l.numbers)
