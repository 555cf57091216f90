use Rattle.std.proofs.Common.{length}
use Rattle.ecma_place.specs.Cursor.{rest}
use Rattle.ecma_template.specs.VerbatimTexts.{PassesVerbatim}
use Rattle.ecma_template.proofs.template.verbatim.pass_verbatim.Given as goal

abbrev pub invariant-pieces : goal.invariant-pieces
invariant-pieces l = PassesVerbatim l.line_break l.fn.input l.input

abbrev pub decreases-pieces : goal.decreases-pieces
decreases-pieces l = length (rest l.input)
