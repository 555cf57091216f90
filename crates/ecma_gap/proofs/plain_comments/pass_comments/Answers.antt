use Rattle.std.proofs.Common.{◌||◌}
use Rattle.ecma_gap.proofs.GapSoFarLemmas.{white-stops}
use Rattle.ecma_gap.proofs.PlainCommentLemmas.{ahead-more, answer-passed, same-comment, same-white, told-passed}
use Rattle.ecma_gap.proofs.plain_comments.pass_comments.Goals as goal

pub comments-preserved : goal.comments-preserved
comments-preserved c =
    let on = c.comments.invariant in
    let white = c.skip_white_space-line_break.ensures in
    record {
      from =
          same-white c.args.flag (c.comments.line_break || c.in-Some.terminator) _ _ c.pass_comment.new.input _
          (same-comment c.args.flag c.comments.line_break c.in-Some.terminator _ _ _ on.from c.in-Some.ensures.comment) white.moved white.terminator;
      white = white-stops _ _ white.moved;
      ahead =
          ahead-more _ c.pass_comment.new.input _ (ahead-more _ c.comments.input _ on.ahead c.pass_comment.ensures.ahead)
          (_, white.moved);
    }

pub returns-clause-gap : goal.returns-clause-gap
returns-clause-gap c =
    told-passed c.args.flag c.comments.line_break c.args.input.now c.comments.input _ _ c.comments.invariant.from c.comments.invariant.white
    c.in_default.ensures.none c.told_at.ensures

pub returns-clause-answer : goal.returns-clause-answer
returns-clause-answer c =
    answer-passed c.args.flag c.comments.line_break c.args.input.now c.comments.input _ _ c.comments.invariant.from c.in_default.ensures.none c.told_at.ensures

pub returns-clause-ahead : goal.returns-clause-ahead
returns-clause-ahead c = ahead-more _ c.comments.input _ c.comments.invariant.ahead c.pass_comment.ensures.ahead
