use Rattle.ecma_grammar_laws.proofs.CommentLaws.{comments_lie_in_order}
use Rattle.ecma_laws.proofs.laws.gaps.comments_lie_in_order.Goals as goal

pub returns : goal.returns
returns c = comments_lie_in_order
