-- How many contexts a stack has, and the second of them.
use Rattle.std.proofs.Common.{◌≡◌, ◌+◌, ◌*◌, ◌∙◌, ℕ, List, [], ◌∷◌, Option, Some, None, arith, length, ap, reverse, refl}
use Rattle.std.proofs.lemmas.List.{length-reverse}
use Rattle.std.specs.List.{slice_get}
use Rattle.ecma_contexts.specs.ContextPairs.{contexts_of, inner_of, inside, unpaired}
use Rattle.ecma_contexts.specs.declared.context_pair.ContextPair.{ContextPair}
use Rattle.ecma_contexts.specs.declared.token_context.TokenContext.{TokenContext}
use Rattle.ecma_contexts.specs.Contexts.{around_innermost, Contexts}

abbrev pub one_in : Option TokenContext → ℕ
one_in None = 0
one_in (Some c) = 1

length-unpaired : (ps : List ContextPair) → length (unpaired ps) ≡ 2 * length ps
length-unpaired [] = refl
length-unpaired (p ∷ ps) = let more = length-unpaired ps in omega (arith, more)

length-inside : (c : Option TokenContext) (around : Contexts) → length (inside c around) ≡ one_in c + length around
length-inside None around = omega arith
length-inside (Some c) around = omega arith

pub paired_length : (top under : Option TokenContext) (items : List ContextPair) → length (contexts_of top under (reverse items)) ≡ one_in top + (one_in under + 2 * length items)
paired_length top under items =
    length-inside top (inside under (unpaired (reverse items)))
    ∙ ap (λ n. one_in top + n) (length-inside under (unpaired (reverse items)))
    ∙ ap (λ n. one_in top + (one_in under + n)) (length-unpaired (reverse items) ∙ ap (λ n. 2 * n) (length-reverse items))

-- the context around the innermost, where it is in a pair
pub around_paired : (top under : Option TokenContext) (pairs : List ContextPair) (p : ContextPair) → slice_get pairs 0 ≡ Some p → under ≡ None → (top ≡ None → pairs ≡ []) → around_innermost (contexts_of top under pairs) ≡ Some (inner_of p)
around_paired top under [] p first alone none = cc
around_paired None under (q ∷ pairs) p first alone none = cc (none refl)
around_paired (Some t) (Some u) (q ∷ pairs) p first alone none = cc
around_paired (Some t) None (q ∷ pairs) p first alone none = cc

-- and where there is no pair, none
pub around_unpaired : (top under : Option TokenContext) (pairs : List ContextPair) → slice_get pairs 0 ≡ None → under ≡ None → around_innermost (contexts_of top under pairs) ≡ None
around_unpaired top under (q ∷ pairs) first alone = cc
around_unpaired top (Some u) [] first alone = cc
around_unpaired (Some t) None [] first alone = refl
around_unpaired None None [] first alone = refl
