use Rattle.std.proofs.Common.{◌≡◌, length}
use Rattle.ecma_place.specs.Cursor.{rest, place}
use Rattle.ecma_place.proofs.RunLemmas.{IsOnRun}
use Rattle.ecma_grammar.specs.Fronts.{in_line}
use Rattle.ecma_grammar.proofs.line.read_line.Given as goal

abbrev pub invariant-chars : goal.invariant-chars
invariant-chars l = IsOnRun in_line l.fn.input l.input × (l.start.0 ≡ place l.fn.input)

abbrev pub decreases-chars : goal.decreases-chars
decreases-chars l = length (rest l.input)
