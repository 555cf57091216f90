use Rattle.std.proofs.Common.{◌≡◌, ◌∙◌, ap, arith, length}
use Rattle.ecma_show.specs.declared.frame.Frame.{Frame}
use Rattle.ecma_show.specs.Painted.{painted}
use Rattle.ecma_show.specs.Shown.{lines_of}
use Rattle.ecma_show.specs.Unshown.{unshown}
use Rattle.ecma_show.proofs.UnshownLemmas.{unshown-text}
use Rattle.ecma_show.proofs.text.show.Goals as goal

pub returns-clause-back : goal.returns-clause-back
returns-clause-back c = λ whole.
    let text = c.args.text.now in
    let parts = c.args.parts.now in
    let frame : Frame = record { width = c.in_ok-width_of.field-0; colours = c.args.colours } in
    let colours : c.push_parts.new.out.items ≡ painted c.args.colours text parts = simp (c.in_ok-push_parts.ensures, c.new-painted.ensures.items, c.as_bytes-bytes.ensures.value) in
    let same : c.push_lines.new.out.items ≡ lines_of text frame parts c.args.marks.now =
    simp (c.in_ok-push_lines.ensures, c.new-lines.ensures.items, c.deref.ensures.value, colours, c.as_bytes-bytes.ensures.value) in
    let small = c.push_parts.new.out.small in
    let held = c.push_parts.new.out.ok in
    let size : length c.push_parts.new.out.items ≡ length (painted c.args.colours text parts) = ap length colours in
    ap unshown same ∙ unshown-text text parts c.args.marks.now frame whole (omega (arith, small, held, size))
