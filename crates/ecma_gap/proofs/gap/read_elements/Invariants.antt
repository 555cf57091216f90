use Rattle.std.proofs.Common.{◌≡◌, ◌+◌, length, cond, false, None}
use Rattle.ecma_place.specs.Cursor.{rest}
use Rattle.ecma_grammar.specs.Gaps.{element, gap_cutter}
use Rattle.ecma_gap.specs.GapRecords.{gap_so_far, nothing_read}
use Rattle.ecma_gap.proofs.GapSoFarLemmas.{whole}
use Rattle.ecma_gap.proofs.gap.read_elements.Given as goal

-- what is found from here on, with what was read, is what is found from the start
abbrev pub invariant-elements : goal.invariant-elements
invariant-elements l = record {
  same : whole (gap_cutter l.mode) (λ flag. flag) l.mode l.input (gap_so_far l.so_far) ≡ whole (gap_cutter l.mode) (λ flag. flag) l.mode l.fn.input (nothing_read l.mode.first);
  ended : l.more ≡ false → element l.mode l.so_far.line_break (rest l.input) ≡ None;
}

abbrev pub decreases-elements : goal.decreases-elements
decreases-elements l = length (rest l.input) + cond l.more 1 0
