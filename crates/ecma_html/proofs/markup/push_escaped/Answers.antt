use Rattle.std.proofs.Common.{arith}
use Rattle.ecma_stdio.proofs.Runs.{passed-on, run-added}
use Rattle.ecma_html.specs.Markup as markup
use Rattle.ecma_html.proofs.markup.push_escaped.Goals as goal
use Rattle.ecma_html.proofs.markup.push_escaped.Goals.{in-Some+in_ok-extend_from_slice+in_ok-extend_from_slice-2, in_default}

pub loop-place-preserved : goal.loop-place-preserved
loop-place-preserved c =
    let le = c.loop-place.invariant.0 in
    let so_far = c.loop-place.invariant.1 in
    let lt = c.loop-place-test.true in
    elim c.match-replacement.branch [
      | in-Some+in_ok-extend_from_slice+in_ok-extend_from_slice-2 w ↦ rw (w.out-is, w.done-is, w.in_ok-extend_from_slice-2.ensures.items, ← w.in-Some.ensures) (
        omega arith,
        run-added markup.escaped_byte c.args.bytes.now c.args.out.now.items c.loop-place.out.items w.extend_from_slice.new.self.items c.loop-place.done c.loop-place.place lt so_far w.in_ok-extend_from_slice.ensures.items,
      )
      | in_default w ↦ rw (w.out-is, w.done-is) (
        omega arith,
        passed-on markup.escaped_byte c.args.bytes.now c.args.out.now.items c.loop-place.out.items c.loop-place.done c.loop-place.place le lt w.in_default.ensures so_far,
      )
    ]
