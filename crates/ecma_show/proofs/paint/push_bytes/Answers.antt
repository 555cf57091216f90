use Rattle.std.proofs.Common.{arith}
use Rattle.ecma_show.specs.Painted.{painted_byte}
use Rattle.ecma_show.proofs.RunLemmas.{passed-on, run-added}
use Rattle.ecma_show.proofs.paint.push_bytes.Goals as goal
use Rattle.ecma_show.proofs.paint.push_bytes.Goals.{then-is_replaced+in_ok-extend_from_slice+in_ok-push_painted, else-is_replaced}

pub loop-place-preserved : goal.loop-place-preserved
loop-place-preserved c =
    let le = c.loop-place.invariant.0 in
    let so_far = c.loop-place.invariant.1 in
    let lt = c.loop-place-test.true in
    let own = painted_byte c.args.colour in
    elim c.if-is_replaced.branch [
      | then-is_replaced+in_ok-extend_from_slice+in_ok-push_painted w ↦ rw (w.out-is, w.done-is, w.last-is, w.in_ok-push_painted.ensures) (
        omega arith,
        run-added own c.loop-place.last c.args.bytes.now c.loop-place.out.items w.extend_from_slice.new.self.items _ c.loop-place.done c.loop-place.place lt w.in_ok-extend_from_slice.ensures.items so_far,
      )
      | else-is_replaced w ↦ rw (w.out-is, w.done-is, w.last-is) (
        omega arith,
        passed-on own c.loop-place.last c.args.bytes.now c.loop-place.out.items _ c.loop-place.done c.loop-place.place le lt (c.is_replaced.ensures w.if-is_replaced.false) so_far,
      )
    ]
