use Rattle.std.proofs.Common.{sym, ◌∙◌}
use Rattle.ecma_place.proofs.CursorLemmas.{IsInput-past, cursor-past}
use Rattle.ecma_place.proofs.input.StringInput.bump_decoded.Goals as goal

pub invariant_of-self : goal.invariant_of-self
invariant_of-self c =
    rw c.len_utf8.ensures.value
    (IsInput-past _ _ _ _ _ c.self.invariant (sym (c.chars.ensures.rest ∙ c.range_from.ensures.value) ∙ c.in-Some.ensures.steps.0))

pub returns-in-Some : goal.returns-in-Some
returns-in-Some c =
    rw c.len_utf8.ensures.value
    (cursor-past _ _ _ _ _ _ c.self.view_is c.self.invariant (sym (c.chars.ensures.rest ∙ c.range_from.ensures.value) ∙ c.in-Some.ensures.steps.0))
