-- The lines of the places so far are there.
use Rattle.std.proofs.Common.{◌≡◌, take}
use Rattle.ecma_report.specs.Unmet.{unmet_lines}
use Rattle.ecma_report.proofs.unmet.unmet_lines.Given as goal

abbrev pub invariant-loop-place : goal.invariant-loop-place
invariant-loop-place l = l.lines.items ≡ unmet_lines l.report.name.now (take l.place-index l.places)
