use Rattle.std.proofs.Common.{arith}
use Rattle.ecma_place.proofs.CursorLemmas.{bytes-seen}
use Rattle.ecma_place.proofs.ClassLemmas.{run-HasPlace}
use Rattle.ecma_place.proofs.input.StringInput.chunk.Goals as goal

pub returns-in-Some-clause-bytes : goal.returns-in-Some-clause-bytes
returns-in-Some-clause-bytes c =
    rw (← bytes-seen _ _ _ _ c.self.view_is c.self.invariant, ← c.range_from.ensures.value, ← c.as_bytes-bytes.ensures.value)
    (let is = c.in-Some.ensures.cases in (is.0, omega (arith, is.2)))

pub returns-in-None-clause-few : goal.returns-in-None-clause-few
returns-in-None-clause-few c =
    rw (← bytes-seen _ _ _ _ c.self.view_is c.self.invariant, ← c.range_from.ensures.value, ← c.as_bytes-bytes.ensures.value) c.in-None.ensures.cases

pub returns-in-Some-clause-places : goal.returns-in-Some-clause-places
returns-in-Some-clause-places c = λ class. run-HasPlace class _ _ _ _ c.self.view_is c.self.invariant

pub returns-in-None-clause-places : goal.returns-in-None-clause-places
returns-in-None-clause-places c = λ class. run-HasPlace class _ _ _ _ c.self.view_is c.self.invariant
