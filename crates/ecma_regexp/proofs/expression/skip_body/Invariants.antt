use Rattle.std.proofs.Common.{◌≡◌, length}
use Rattle.ecma_place.specs.Cursor.{rest}
use Rattle.ecma_grammar.specs.Expressions.{body_cutter}
use Rattle.ecma_regexp.specs.WrittenExpressions.{behind_all}
use Rattle.ecma_regexp.proofs.expression.skip_body.Given as goal

-- the pieces that are left end where all do
abbrev pub invariant-pieces : goal.invariant-pieces
invariant-pieces l = behind_all body_cutter l.input ≡ behind_all body_cutter l.fn.input

abbrev pub decreases-pieces : goal.decreases-pieces
decreases-pieces l = length (rest l.input)
