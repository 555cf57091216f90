use Rattle.std.proofs.Common.{◌≡◌}
use Rattle.ecma_place.specs.Cursor.{place}
use Rattle.ecma_escape.proofs.EscapeReading.{IsOnDigits}
use Rattle.ecma_escape.proofs.escape.some_digits.Given as goal

abbrev pub invariant-digits : goal.invariant-digits
invariant-digits l = IsOnDigits l.radix l.most l.left l.fn.input l.input × (l.start.0 ≡ place l.fn.input)

abbrev pub decreases-digits : goal.decreases-digits
decreases-digits l = l.left
