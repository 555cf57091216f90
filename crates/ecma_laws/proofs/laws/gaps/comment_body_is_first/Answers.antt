use Rattle.ecma_scan.proofs.GapForms.{comment_body_is_first}
use Rattle.ecma_laws.proofs.laws.gaps.comment_body_is_first.Goals as goal

pub returns : goal.returns
returns c = comment_body_is_first
