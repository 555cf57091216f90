use Rattle.std.proofs.Common.{sym, ◌∙◌}
use Rattle.ecma_place.specs.Cursor.{rest, place}
use Rattle.ecma_gap.specs.GapRecords.{gap_so_far}
use Rattle.ecma_gap.proofs.NextElements.{marker-plain, marker-stands, next-said}
use Rattle.ecma_gap.proofs.element.read_conflict.Goals as goal

pub read_marker-requires-clause-plain : goal.read_marker-requires-clause-plain
read_marker-requires-clause-plain c =
    marker-plain c.args.mode.now.type_mode c.in-Some.first (rest c.args.input.now) (sym c.stands_marker.ensures ∙ c.if-stands_marker.true)

pub returns-in_ok-read_marker-in-Some-clause-so_far : goal.returns-in_ok-read_marker-in-Some-clause-so_far
returns-in_ok-read_marker-in-Some-clause-so_far c =
    next-said c.args.mode.now (place c.args.input.now) (rest c.args.input.now) (gap_so_far c.args.so_far.now) _ _ _ (marker-stands c.args.mode.now.type_mode c.in-Some.first (rest c.args.input.now) (sym c.in-Some.ensures.first) (sym c.stands_marker.ensures ∙ c.if-stands_marker.true)) c.in_ok-read_marker-in-Some.ensures.so_far
