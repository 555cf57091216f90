use Rattle.ecma_scan.proofs.GapLaws.{line_feed_is_the_gap}
use Rattle.ecma_laws.proofs.laws.gaps.line_feed_is_the_gap.Goals as goal

pub returns : goal.returns
returns c = line_feed_is_the_gap
