use Rattle.std.proofs.Common.{◌≡◌, Bool, false, subst, sym, ap, ◌∙◌, not, arith}
use Rattle.std.specs.Prelude.{IfSome}
use Rattle.ecma_gap.specs.BlankGaps.{IsTold}
use Rattle.ecma_gap.proofs.BlankGapLemmas.{told-gap}
use Rattle.ecma_gap.proofs.PlainCommentLemmas.{ahead-more, answer-apart, answer-behind, answer-told, answer-white, told-behind}
use Rattle.ecma_gap.proofs.GapSoFarLemmas.{white-stops}
use Rattle.ecma_gap.proofs.blank_gap.scan_blank_gap.Goals as goal
use Rattle.ecma_gap.proofs.blank_gap.scan_blank_gap.Goals.{else-is_none-via-then-is_none+then-not-collect+else-is_byte, else-is_none-via-then-is_none+else-not-collect, else-is_none-via-else-is_none}

pub pass_comments-requires : goal.pass_comments-requires
pass_comments-requires c = white-stops _ _ c.skip_white_space-terminator.ensures.moved

pub returns-then-is_byte-clause-gap : goal.returns-then-is_byte-clause-gap
returns-then-is_byte-clause-gap c =
    let white = c.skip_white_space-terminator.ensures in
    let off : c.args.collect ≡ false = c.if-not-collect.true in
    subst (λ (b : Bool). IfSome c.pass_comments.result (IsTold c.args.first b c.args.input.now c.pass_comments.new.input)) (sym off)
    (told-behind c.args.first _ _ _ c.pass_comments.new.input _ white.moved white.terminator c.pass_comments.ensures.gap)

pub returns-then-is_byte-clause-answer : goal.returns-then-is_byte-clause-answer
returns-then-is_byte-clause-answer c =
    let white = c.skip_white_space-terminator.ensures in
    let off : c.args.collect ≡ false = c.if-not-collect.true in
    rw off (answer-behind c.args.first _ _ _ _ white.moved white.terminator c.pass_comments.ensures.answer)

pub returns-then-is_byte-clause-ahead : goal.returns-then-is_byte-clause-ahead
returns-then-is_byte-clause-ahead c =
    ahead-more _ c.skip_white_space-terminator.new.input _ (_, c.skip_white_space-terminator.ensures.moved) c.pass_comments.ensures.ahead

pub returns-clause-gap : goal.returns-clause-gap
returns-clause-gap c =
    told-gap c.args.first c.args.collect _ _ _ _ c.skip_white_space-terminator.ensures.moved c.skip_white_space-terminator.ensures.terminator c.told_at-told.ensures

pub returns-clause-answer : goal.returns-clause-answer
returns-clause-answer c =
    let white = c.skip_white_space-terminator.ensures in
    let told = c.told_at-told in
    elim c.else-is_none.branch [
      | else-is_none-via-then-is_none+then-not-collect+else-is_byte w ↦
          rw w.if-not-collect.true
          (answer-apart c.args.first _ _ _ _ _ white.moved white.terminator (w.is_byte.ensures.ascii (omega arith)).1 w.if-is_byte.false told.ensures)
      | else-is_none-via-then-is_none+else-not-collect w ↦
          rw w.if-not-collect.false (answer-white c.args.first _ _ _ _ white.moved white.terminator told.ensures)
      | else-is_none-via-else-is_none w ↦
          answer-told c.args.first _ c.args.collect _ _ _ white.moved white.terminator told.ensures (c.is_none.ensures ∙ ap not w.if-is_none.false)
    ]
