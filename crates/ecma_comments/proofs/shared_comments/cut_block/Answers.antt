use Rattle.std.proofs.Common.{arith, ap, ◌∙◌, vec_len}
use Rattle.ecma_comments.proofs.SharedCommentsLemmas.{cut-step}
use Rattle.ecma_comments.proofs.shared_comments.cut_block.Goals as goal

pub blocks-2-preserved : goal.blocks-2-preserved
blocks-2-preserved c =
    let step = cut-step _ _ _ _ _ _ c.blocks-2.invariant.0 c.blocks-2.invariant.2 c.in-Some.ensures.items (c.len-before.ensures ∙ ap vec_len c.deref.ensures ∙ c.in-Some.block.value.ok.0) in
    let on = c.if-before-len.false in
    (step.0, omega (arith, on), step.1)
