use Rattle.std.proofs.Common.{◌∙◌}
use Rattle.ecma_regexp.proofs.ExpressionPieces.{letter_step}
use Rattle.ecma_regexp.proofs.expression.skip_class.Goals as goal

pub letters-preserved : goal.letters-preserved
letters-preserved c =
    (letter_step _ _ _ c.skip_class_letter.ensures.value c.letters-test.true c.skip_class_letter.ensures.moved).same_end ∙ c.letters.invariant
