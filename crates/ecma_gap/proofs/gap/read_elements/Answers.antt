use Rattle.std.proofs.Common.{◌||◌, ◌++◌, ℕ, arith, ap, sym, ◌∙◌, subst}
use Rattle.ecma_grammar.specs.Gaps.{gap_cutter, pending_fault}
use Rattle.ecma_gap.specs.GapRecords.{gap_so_far, gap_view, with_flag, nothing_read, IsEmpty}
use Rattle.ecma_gap.proofs.ElementLemmas.{always-ok}
use Rattle.ecma_gap.proofs.GapSoFarLemmas.{Whole, gap-reads, whole-is, whole-next, whole-ended, whole-empty, white-passed, white-stops, white-left, next-ended, next-smaller, ended-at, ended-found, ended-empty, three-ok, test-counts}
use Rattle.ecma_gap.proofs.gap.read_elements.Goals as goal

pub read_element-requires : goal.read_element-requires
read_element-requires c = white-stops _ _ c.skip_white_space.ensures.moved

pub returns-in_err-more-clause-free : goal.returns-in_err-more-clause-free
returns-in_err-more-clause-free c =
    let mode = c.args.mode.now in
    let was = gap_so_far c.elements.so_far in
    let white = with_flag (was.flag || c.skip_white_space.result) was in
    let same =
    white-passed (gap_cutter mode) (λ flag. flag) (gap-reads mode) mode _ _ was _ c.skip_white_space.ensures.moved c.skip_white_space.ensures.terminator
    ∙ c.elements.invariant.same ∙ whole-is (gap_cutter mode) (λ flag. flag) mode c.args.input.now (nothing_read mode.first) in
    λ h. let none = whole-empty (gap_cutter mode) (λ flag. flag) (gap-reads mode) mode _ white (subst (λ (w : Whole). IsEmpty w.found) (sym same) h) in
    let no = rw c.in_err-more.was at (c.read_element.ensures.free none) in
    cc

pub elements-smaller : goal.elements-smaller
elements-smaller c =
    let mode = c.args.mode.now in
    let left = white-left _ _ c.skip_white_space.ensures.moved in
    let less = next-smaller (gap_cutter mode) (λ flag. flag) (gap-reads mode) _ _ _ c.in_ok-more.more c.in_ok-more.ensures.moved c.in_ok-more.ensures.more in
    let one = test-counts c.elements.more c.elements-test.true in
    omega (arith, left, less, one)

pub elements-preserved : goal.elements-preserved
elements-preserved c =
    let mode = c.args.mode.now in
    let was = gap_so_far c.elements.so_far in
    let white = with_flag (was.flag || c.skip_white_space.result) was in
    record {
      same =
          whole-next (gap_cutter mode) (λ flag. flag) (gap-reads mode) mode _ _ white _ c.in_ok-more.ensures.moved c.in_ok-more.ensures.so_far
          ∙ white-passed (gap_cutter mode) (λ flag. flag) (gap-reads mode) mode _ _ was _ c.skip_white_space.ensures.moved c.skip_white_space.ensures.terminator
          ∙ c.elements.invariant.same;
      ended = λ e. next-ended (gap_cutter mode) (λ flag. flag) mode _ _ white _ c.in_ok-more.more c.in_ok-more.ensures.moved c.in_ok-more.ensures.so_far c.in_ok-more.ensures.more e;
    }

pub returns-clause-gap : goal.returns-clause-gap
returns-clause-gap c =
    let mode = c.args.mode.now in
    let was = gap_so_far c.elements.so_far in
    let same = c.elements.invariant.same ∙ whole-is (gap_cutter mode) (λ flag. flag) mode c.args.input.now (nothing_read mode.first) in
    let ended = ended-at mode c.elements.input was _ _ same (whole-ended (gap_cutter mode) (λ flag. flag) mode c.elements.input was (c.elements.invariant.ended c.elements-test.false)) in
    three-ok _ _ _ _ _ c.into_gap.ensures.line_break c.into_gap.ensures.comments c.into_gap.ensures.faults
    (λ gap a b d. ended-found mode c.elements.input was _ (gap_view gap) ended a b (d ∙ ap (λ (n : ℕ). was.faults ++ pending_fault was.pending n) c.cur_pos.ensures))

pub returns-clause-moved : goal.returns-clause-moved
returns-clause-moved c =
    let mode = c.args.mode.now in
    let was = gap_so_far c.elements.so_far in
    let same = c.elements.invariant.same ∙ whole-is (gap_cutter mode) (λ flag. flag) mode c.args.input.now (nothing_read mode.first) in
    let ended = ended-at mode c.elements.input was _ _ same (whole-ended (gap_cutter mode) (λ flag. flag) mode c.elements.input was (c.elements.invariant.ended c.elements-test.false)) in
    always-ok _ _ (sym ended.ends)

pub returns-clause-free : goal.returns-clause-free
returns-clause-free c =
    let mode = c.args.mode.now in
    let was = gap_so_far c.elements.so_far in
    let same = c.elements.invariant.same ∙ whole-is (gap_cutter mode) (λ flag. flag) mode c.args.input.now (nothing_read mode.first) in
    let ended = ended-at mode c.elements.input was _ _ same (whole-ended (gap_cutter mode) (λ flag. flag) mode c.elements.input was (c.elements.invariant.ended c.elements-test.false)) in
    λ h. c.into_gap.ensures.free (ap (pending_fault was.pending) c.cur_pos.ensures ∙ ended-empty mode c.elements.input was _ ended h)
