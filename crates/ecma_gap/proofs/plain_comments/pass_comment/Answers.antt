use Rattle.std.proofs.Common.{sym, ◌∙◌}
use Rattle.ecma_gap.proofs.plain_comments.pass_comment.Goals as goal

pub pass_line_comment-requires-clause-slashes : goal.pass_line_comment-requires-clause-slashes
pass_line_comment-requires-clause-slashes c = sym c.stands_pair.ensures ∙ c.if-stands_pair.true

pub pass_block_comment-requires-clause-opening : goal.pass_block_comment-requires-clause-opening
pass_block_comment-requires-clause-opening c = sym c.stands_pair-else-stands_pair.ensures ∙ c.if-stands_pair-2.true
