use Rattle.std.proofs.Common.{◌≡◌, ◌+◌, length, cond, false, None}
use Rattle.ecma_place.specs.Cursor.{rest}
use Rattle.ecma_grammar.specs.Bars.{common_cutter, common_element}
use Rattle.ecma_gap.specs.GapRecords.{gap_so_far}
use Rattle.ecma_gap.proofs.GapSoFarLemmas.{whole}
use Rattle.ecma_gap.proofs.bars.read_comments.Given as goal

-- what is found from here on, with what was read, is what is found from the start
abbrev pub invariant-comments : goal.invariant-comments
invariant-comments l = record {
  same : whole common_cutter (λ flag. tt) l.mode l.input (gap_so_far l.so_far) ≡ whole common_cutter (λ flag. tt) l.mode l.fn.input (gap_so_far l.initial.so_far);
  ended : l.more ≡ false → common_element (rest l.input) ≡ None;
}

abbrev pub decreases-comments : goal.decreases-comments
decreases-comments l = length (rest l.input) + cond l.more 1 0
