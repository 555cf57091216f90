use Rattle.std.proofs.Common.{◌≡◌, length}
use Rattle.ecma_place.specs.Cursor.{rest}
use Rattle.ecma_grammar.specs.Expressions.{class_cutter}
use Rattle.ecma_regexp.specs.WrittenExpressions.{behind_all}
use Rattle.ecma_regexp.proofs.expression.skip_class.Given as goal

-- the letters that are left end where all do
abbrev pub invariant-letters : goal.invariant-letters
invariant-letters l = behind_all class_cutter l.input ≡ behind_all class_cutter l.fn.input

abbrev pub decreases-letters : goal.decreases-letters
decreases-letters l = length (rest l.input)
