use Rattle.std.proofs.Common.{◌≡◌, length}
use Rattle.ecma_place.specs.Cursor.{rest, place}
use Rattle.ecma_place.proofs.RunLemmas.{IsOnRun}
use Rattle.ecma_grammar.specs.Escapes.{is_hex_digit}
use Rattle.ecma_escape.proofs.escape.hex_run.Given as goal

abbrev pub invariant-chars : goal.invariant-chars
invariant-chars l = IsOnRun is_hex_digit l.fn.input l.input × (l.start.0 ≡ place l.fn.input)

abbrev pub decreases-chars : goal.decreases-chars
decreases-chars l = length (rest l.input)
