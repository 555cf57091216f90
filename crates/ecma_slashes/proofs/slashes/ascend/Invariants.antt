-- The places that were passed ascend up to the last of them, so that the rest decides.
use Rattle.std.proofs.Common.{◌≡◌, drop}
use Rattle.ecma_slashes.specs.Rereads.{ascend, ascend_behind}
use Rattle.ecma_slashes.proofs.slashes.ascend.Given as goal

abbrev pub invariant-places : goal.invariant-places
invariant-places l = ascend l.fn.places ≡ ascend_behind (record { 0 = l.last }) (drop l.place-index l.behind)
