use Rattle.ecma_regexp.proofs.ExpressionPieces.{class_value, class_moved, class_open, class_line_end-same}
use Rattle.ecma_regexp.proofs.expression.skip_bracketed.Goals as goal

pub returns-clause-value : goal.returns-clause-value
returns-clause-value c = class_value _ _ _ _ c.bump.ensures c.skip_class.ensures c.eat_byte.ensures.value

pub returns-clause-moved : goal.returns-clause-moved
returns-clause-moved c = λ ate. class_moved _ _ _ _ _ c.bump.ensures c.skip_class.ensures c.eat_byte.ensures.value c.eat_byte.ensures.moved ate

pub returns-clause-open : goal.returns-clause-open
returns-clause-open c = λ ate. class_open _ _ _ _ c.skip_class.ensures c.eat_byte.ensures.moved ate

pub returns-clause-line : goal.returns-clause-line
returns-clause-line c = λ ate. class_line_end-same _ _ _ _ _ c.requires c.bump.ensures c.skip_class.ensures c.eat_byte.ensures.moved ate
