use Rattle.std.proofs.Common.{◌∙◌, sym, arith}
use Rattle.std.specs.Prelude.{get_or}
use Rattle.json.specs.Print.{escape_byte}
use Rattle.ecma_stdio.proofs.Runs.{passed-on, run-added}
use Rattle.ecma_print.proofs.EscapedLemmas.{written_as_is}
use Rattle.ecma_print.proofs.members.push_inside.Goals as goal
use Rattle.ecma_print.proofs.members.push_inside.Goals.{then-needs_escape+in_ok-extend_from_slice+in_ok-push_escape, else-needs_escape}

pub loop-place-preserved : goal.loop-place-preserved
loop-place-preserved c =
    let le = c.loop-place.invariant.0 in
    let so_far = c.loop-place.invariant.1 in
    let lt = c.loop-place-test.true in
    elim c.if-needs_escape.branch [
      | then-needs_escape+in_ok-extend_from_slice+in_ok-push_escape w ↦ rw (w.out-is, w.done-is, w.in_ok-push_escape.ensures) (
        omega arith,
        run-added escape_byte c.args.bytes.now c.args.out.now.items c.loop-place.out.items w.extend_from_slice.new.self.items c.loop-place.done c.loop-place.place lt so_far w.in_ok-extend_from_slice.ensures.items,
      )
      | else-needs_escape w ↦ rw (w.out-is, w.done-is) (
        omega arith,
        passed-on escape_byte c.args.bytes.now c.args.out.now.items c.loop-place.out.items c.loop-place.done c.loop-place.place le lt
            (written_as_is (get_or c.args.bytes.now c.loop-place.place 0) (sym c.needs_escape.ensures ∙ w.if-needs_escape.false)) so_far,
      )
    ]
