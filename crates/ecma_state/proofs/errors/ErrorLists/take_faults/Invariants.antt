use Rattle.ecma_state.proofs.ErrorLemmas.{IsTaking}
use Rattle.ecma_state.proofs.errors.ErrorLists.take_faults.Given as goal

-- what was taken in so far, with what is left, is what is to be taken in
abbrev pub invariant-faults : goal.invariant-faults
invariant-faults l = IsTaking l.fn.context l.fn.self l.self l.fn.faults.items l.blame-iterator.rest.items
