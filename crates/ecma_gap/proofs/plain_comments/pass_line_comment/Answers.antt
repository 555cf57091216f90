use Rattle.ecma_gap.proofs.PlainCommentLemmas.{line-passes}
use Rattle.ecma_gap.proofs.plain_comments.pass_line_comment.Goals as goal

pub returns : goal.returns
returns c = line-passes _ _ _ c.requires.slashes c.requires.stands c.pass.ensures c.read_line.ensures.moved
