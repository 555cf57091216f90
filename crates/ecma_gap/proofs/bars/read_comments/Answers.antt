use Rattle.std.proofs.Common.{◌||◌, ◌++◌, ℕ, ap, sym, ◌∙◌, length}
use Rattle.ecma_place.specs.Cursor.{rest, passed}
use Rattle.ecma_grammar.specs.Bars.{common_cutter}
use Rattle.ecma_grammar.specs.Gaps.{pending_fault}
use Rattle.ecma_grammar.specs.Pieces.{pieces}
use Rattle.ecma_gap.specs.GapRecords.{gap_so_far, gap_view, with_flag}
use Rattle.ecma_gap.proofs.BarsLemmas.{spelled-same}
use Rattle.ecma_gap.proofs.ElementLemmas.{always-ok}
use Rattle.ecma_gap.proofs.GapSoFarLemmas.{common-reads, whole-is, whole-next, whole-ended, white-passed, white-stops, next-ended, ended-at, ended-found, three-ok}
use Rattle.ecma_gap.proofs.bars.read_comments.Goals as goal

pub read_comment-requires : goal.read_comment-requires
read_comment-requires c = white-stops _ _ c.skip_white_space.ensures.moved

pub comments-preserved : goal.comments-preserved
comments-preserved c =
    let mode = c.args.mode.now in
    let was = gap_so_far c.comments.so_far in
    let white = with_flag (was.flag || c.skip_white_space.result) was in
    record {
      same =
          whole-next common_cutter (λ flag. tt) common-reads mode _ _ white _ c.in_ok-more.ensures.moved c.in_ok-more.ensures.so_far
          ∙ white-passed common_cutter (λ flag. tt) common-reads mode _ _ was _ c.skip_white_space.ensures.moved c.skip_white_space.ensures.terminator
          ∙ c.comments.invariant.same;
      ended = λ e. next-ended common_cutter (λ flag. tt) mode _ _ white _ c.in_ok-more.more c.in_ok-more.ensures.moved c.in_ok-more.ensures.so_far c.in_ok-more.ensures.more e;
    }

pub returns-clause-gap : goal.returns-clause-gap
returns-clause-gap c =
    let mode = c.args.mode.now in
    let was = gap_so_far c.comments.so_far in
    let same = c.comments.invariant.same ∙ whole-is common_cutter (λ flag. tt) mode c.args.input.now (gap_so_far c.args.so_far) in
    let ended = ended-at mode c.comments.input was _ _ same (whole-ended common_cutter (λ flag. tt) mode c.comments.input was (c.comments.invariant.ended c.comments-test.false)) in
    three-ok _ _ _ _ _ c.into_gap.ensures.line_break c.into_gap.ensures.comments c.into_gap.ensures.faults
    (λ gap a b d. ended-found mode c.comments.input was _ (gap_view gap) ended a b (d ∙ ap (λ (n : ℕ). was.faults ++ pending_fault was.pending n) c.cur_pos.ensures))

pub returns-clause-moved : goal.returns-clause-moved
returns-clause-moved c =
    let mode = c.args.mode.now in
    let was = gap_so_far c.comments.so_far in
    let same = c.comments.invariant.same ∙ whole-is common_cutter (λ flag. tt) mode c.args.input.now (gap_so_far c.args.so_far) in
    let ended = ended-at mode c.comments.input was _ _ same (whole-ended common_cutter (λ flag. tt) mode c.comments.input was (c.comments.invariant.ended c.comments-test.false)) in
    always-ok _ _ (sym ended.ends ∙ ap (λ t. passed (length t) c.args.input.now) (spelled-same mode (pieces common_cutter tt (rest c.args.input.now))))
