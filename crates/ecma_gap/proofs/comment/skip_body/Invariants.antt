use Rattle.std.proofs.Common.{length}
use Rattle.ecma_place.specs.Cursor.{rest}
use Rattle.ecma_gap.proofs.BodyLemmas.{IsInBody}
use Rattle.ecma_gap.proofs.comment.skip_body.Given as goal

abbrev pub invariant-chars : goal.invariant-chars
invariant-chars l = IsInBody l.terminator l.fn.input l.input

abbrev pub decreases-chars : goal.decreases-chars
decreases-chars l = length (rest l.input)
