use Rattle.std.proofs.Common.{false, sym, ◌∙◌}
use Rattle.ecma_gap.proofs.BodyLemmas.{body-start, body-step, body-jump, body-stop, body-stop-flag}
use Rattle.ecma_gap.proofs.comment.skip_body.Goals as goal

pub chars-init : goal.chars-init
chars-init c = body-jump false _ _ _ _ (body-start _) c.run_bytes.ensures.run c.bump_bytes.ensures

pub chars-preserved : goal.chars-preserved
chars-preserved c =
    let step = body-step _ _ _ _ _ _ c.chars.invariant (sym c.in-Some.ensures.first) (sym c.stands_pair.ensures ∙ c.if-stands_pair.false) c.is_line_terminator-terminator.ensures c.bump.ensures in
    body-jump _ _ _ _ _ step c.run_bytes-in-Some.ensures.run c.bump_bytes-in-Some.ensures

pub returns-then-stands_pair-clause-terminator : goal.returns-then-stands_pair-clause-terminator
returns-then-stands_pair-clause-terminator c = body-stop-flag _ _ _ c.chars.invariant (sym c.stands_pair.ensures ∙ c.if-stands_pair.true)

pub returns-then-stands_pair-clause-moved : goal.returns-then-stands_pair-clause-moved
returns-then-stands_pair-clause-moved c = body-stop _ _ _ c.chars.invariant (sym c.stands_pair.ensures ∙ c.if-stands_pair.true)
