use Rattle.std.proofs.Common.{◌≡◌, ◌∙◌, ◌+◌, ◌++◌, ◌∷◌, [], ap, sym, take}
use Rattle.std.proofs.lemmas.List.{take_more}
use Rattle.ecma_comments.proofs.SharedCommentsLemmas.{added-next}
use Rattle.ecma_comments.proofs.shared_comments.add_blocks_behind.Goals as goal

pub every-preserved : goal.every-preserved
every-preserved c =
    let more : take (c.every.block-index + 1) c.args.blocks.now ≡ take c.every.block-index c.args.blocks.now ++ c.block-item.result ∷ [] =
    take_more c.args.blocks.now c.every.block-index _ c.every-test.true ∙ ap (λ block. take c.every.block-index c.args.blocks.now ++ block ∷ []) (sym c.block-item.is) in
    let same : c.as_slice.result.now ≡ c.block-item.result.value.items = rw (← c.deref.ensures) c.as_slice.ensures.value in
    added-next _ _ _ _ _ _ _ _ _ _ c.every.invariant more same c.in_ok-left.ensures.items c.in_ok-left.ensures.left
