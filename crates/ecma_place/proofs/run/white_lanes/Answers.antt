use Rattle.std.proofs.Common.{◌≡◌, not, sym, ◌∙◌}
use Rattle.std.specs.List.{prefix_len}
use Rattle.ecma_place.specs.Run.{is_white_byte, ends_line}
use Rattle.ecma_lanes.proofs.LaneLemmas.{same_run, not-not, first_within}
use Rattle.ecma_place.proofs.run.white_lanes.Goals as goal

pub returns-clause-ends : goal.returns-clause-ends
returns-clause-ends c =
    let v = c.args.v in
    let first = c.lanes_before.ensures ends_line v c.fits-v.0 c.line_ends.ensures in
    let count : c.lanes_before-count.result ≡ prefix_len is_white_byte v =
    c.lanes_before-count.ensures (λ b. not (is_white_byte b)) v c.fits-v.0 c.white_stops.ensures ∙ sym (same_run (λ b. not (is_white_byte b)) is_white_byte (λ x. not-not (is_white_byte x)) v) in
    rw (first, count) (first_within is_white_byte ends_line v)
