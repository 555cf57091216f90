use Rattle.ecma_place.proofs.CursorLemmas.{bytes-seen, copied_get, ascii-places}
use Rattle.ecma_place.proofs.input.StringInput.byte_ahead.Goals as goal

pub returns-clause-byte : goal.returns-clause-byte
returns-clause-byte c =
    let got = c.get.ensures.lookup in
    rw (c.copied.ensures, ← bytes-seen _ _ _ _ c.self.view_is c.self.invariant, ← c.range_from.ensures.value, ← c.as_bytes.ensures.value)
    (copied_get c.get.result _ _ got.1 got.3)

pub returns-clause-places : goal.returns-clause-places
returns-clause-places c = ascii-places _ _ _ _ _ _ c.self.view_is c.self.invariant (returns-clause-byte c)
