use Rattle.std.proofs.Common.{◌∙◌, ◌++◌, ap}
use Rattle.ecma_contexts.specs.SharedPairs.{contents, joined}
use Rattle.ecma_contexts.proofs.SharedPairsLemmas.{same-first, used-within}
use Rattle.ecma_contexts.proofs.shared_pairs.put_behind_shared.Goals as goal

pub slice_bounds-same_blocks-end : goal.slice_bounds-same_blocks-end
slice_bounds-same_blocks-end c =
    used-within _ _ _ _ c.requires.filled c.requires.within c.div_ceil.ensures (c.deref-in-None.ensures.value ∙ ap (λ list. list.items) c.deref.ensures)

pub put_behind-requires-in-None-clause-filled : goal.put_behind-requires-in-None-clause-filled
put_behind-requires-in-None-clause-filled c =
    (same-first _ _ _ _ _ c.requires.filled c.requires.within c.div_ceil.ensures (c.deref-in-None.ensures.value ∙ ap (λ list. list.items) c.deref.ensures) c.in_ok-own-in-None.ensures).2

pub put_behind-requires-in-None-clause-within : goal.put_behind-requires-in-None-clause-within
put_behind-requires-in-None-clause-within c =
    (same-first _ _ _ _ _ c.requires.filled c.requires.within c.div_ceil.ensures (c.deref-in-None.ensures.value ∙ ap (λ list. list.items) c.deref.ensures) c.in_ok-own-in-None.ensures).1

pub returns-in_ok-blocks-in-None-clause-ok : goal.returns-in_ok-blocks-in-None-clause-ok
returns-in_ok-blocks-in-None-clause-ok c =
    let same = (same-first _ _ _ _ _ c.requires.filled c.requires.within c.div_ceil.ensures (c.deref-in-None.ensures.value ∙ ap (λ list. list.items) c.deref.ensures) c.in_ok-own-in-None.ensures).0 in
    ap (λ list. joined (contents list.items)) c.in_ok-blocks-in-None.ensures.ok
    ∙ c.in_ok-put_behind-in-None.ensures.ok
    ∙ ap (λ first. first ++ c.args.pairs.now) same
