use Rattle.ecma_gap.proofs.PlainCommentLemmas.{ahead-more, block-open, block-passes, signs-there}
use Rattle.ecma_gap.proofs.plain_comments.pass_block_comment.Goals as goal

pub pass-requires-then-stands_pair : goal.pass-requires-then-stands_pair
pass-requires-then-stands_pair c = signs-there c.skip_body-terminator.new.input _ c.stands_pair.ensures c.if-stands_pair.true

pub returns-then-stands_pair-clause-comment : goal.returns-then-stands_pair-clause-comment
returns-then-stands_pair-clause-comment c =
    let body = c.skip_body-terminator.ensures in
    block-passes _ _ _ _ _ _ c.requires.opening c.requires.stands c.pass.ensures body.moved body.terminator c.stands_pair.ensures c.if-stands_pair.true c.pass-then-stands_pair.ensures

pub returns-then-stands_pair-clause-ahead : goal.returns-then-stands_pair-clause-ahead
returns-then-stands_pair-clause-ahead c =
    ahead-more _ c.skip_body-terminator.new.input _ (ahead-more _ c.pass.new.input _ (2, c.pass.ensures) (_, c.skip_body-terminator.ensures.moved)) (2, c.pass-then-stands_pair.ensures)

pub returns-else-stands_pair-clause-open : goal.returns-else-stands_pair-clause-open
returns-else-stands_pair-clause-open c =
    block-open _ _ _ _ c.requires.opening c.requires.stands c.pass.ensures c.skip_body-terminator.ensures.moved c.stands_pair.ensures c.if-stands_pair.false

pub returns-else-stands_pair-clause-ahead : goal.returns-else-stands_pair-clause-ahead
returns-else-stands_pair-clause-ahead c = ahead-more _ c.pass.new.input _ (2, c.pass.ensures) (_, c.skip_body-terminator.ensures.moved)
