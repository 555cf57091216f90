use Rattle.std.proofs.Common.{sym}
use Rattle.ecma_place.proofs.CursorLemmas.{place-seen, within-seen}
use Rattle.ecma_place.proofs.input.StringInput.last_pos.Goals as goal

pub returns-clause-value : goal.returns-clause-value
returns-clause-value c = sym (place-seen _ _ _ _ c.self.view_is c.self.invariant)

pub returns-clause-within : goal.returns-clause-within
returns-clause-within c = within-seen _ _ _ _ c.self.view_is c.self.invariant
