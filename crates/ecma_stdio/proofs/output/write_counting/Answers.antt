use Rattle.ecma_stdio.proofs.Writing.{sent_within, sent_more}
use Rattle.ecma_stdio.proofs.output.write_counting.Goals as goal

pub writes-preserved : goal.writes-preserved
writes-preserved g c =
    let taken = c.in-Ok.ensures in
    (sent_within _ _ _ c.writes.invariant.0 taken.bound, sent_more _ _ _ _ _ _ c.writes.invariant.1 taken.bytes)
