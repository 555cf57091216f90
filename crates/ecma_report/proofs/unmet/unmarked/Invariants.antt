-- The places so far are there.
use Rattle.std.proofs.Common.{◌≡◌, false, take}
use Rattle.ecma_report.specs.Unmet.{named_places}
use Rattle.ecma_report.proofs.unmet.unmarked.Given as goal

abbrev pub invariant-loop-place : goal.invariant-loop-place
invariant-loop-place l = l.marked.items ≡ named_places (λ p. false) (take l.place-index l.places)
