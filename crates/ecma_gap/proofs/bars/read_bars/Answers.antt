use Rattle.std.proofs.Common.{ap, ◌∙◌, drop}
use Rattle.ecma_place.specs.Cursor.{rest, place}
use Rattle.ecma_grammar.specs.Fronts.{line}
use Rattle.ecma_grammar.specs.Gaps.{Marker}
use Rattle.ecma_gap.specs.GapRecords.{gap_view, with_element}
use Rattle.ecma_gap.proofs.BarsLemmas.{bar-plain, bars-said, bars-moved}
use Rattle.ecma_gap.proofs.bars.read_bars.Goals as goal

pub read_marker-requires-clause-plain : goal.read_marker-requires-clause-plain
read_marker-requires-clause-plain c = bar-plain

pub returns-clause-bars : goal.returns-clause-bars
returns-clause-bars c =
    let text = rest c.args.input.now in
    let said = c.in_ok-span.ensures.so_far ∙ ap (with_element c.args.mode.now (place c.args.input.now) text (Marker 124 (line (drop 7 text)))) c.new-so_far.ensures in
    bars-said c.args.mode.now c.args.input.now _ _ (gap_view c.in_ok-gap.gap) c.in_ok-error.error c.in_ok-span.span c.requires c.in_ok-span.ensures.moved said c.in_ok-gap.ensures.gap c.in_ok-error.ensures c.in_ok-span.ensures.span

pub returns-clause-moved : goal.returns-clause-moved
returns-clause-moved c = bars-moved c.args.input.now _ _ c.requires c.in_ok-span.ensures.moved c.in_ok-gap.ensures.moved
