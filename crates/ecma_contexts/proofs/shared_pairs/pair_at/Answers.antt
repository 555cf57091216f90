use Rattle.std.proofs.Common.{arith, ap, sym, vec_len}
use Rattle.ecma_contexts.proofs.SharedPairsLemmas.{block-there, pair-there, pair-taken}
use Rattle.ecma_contexts.proofs.shared_pairs.pair_at.Goals as goal

pub bounds-blocks-at : goal.bounds-blocks-at
bounds-blocks-at c = block-there _ _ c.requires.filled c.requires.within

pub index-requires : goal.index-requires
index-requires c =
    let there = pair-there _ _ _ c.requires.filled c.requires.within c.index-blocks-at.is in
    let same = ap vec_len c.deref.ensures in
    let counted = c.index-blocks-at.result.value.ok.0 in
    omega (arith, there, same, counted)

pub returns : goal.returns
returns c = pair-taken _ _ _ _ c.requires.filled c.requires.within c.index-blocks-at.is (rw (sym c.deref.ensures) c.index.ensures)
