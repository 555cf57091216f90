-- The first pairs of blocks that stacks of contexts share.
use Rattle.std.specs.Prelude.{◌≡◌, ◌≤◌, List, [], ◌∷◌, length, map, take, Vec}
use Rattle.std.specs.Global.{Global}
use Rattle.std.specs.List.{flat_map}
use Rattle.std.specs.declared.sync.Arc.{Arc}
use Rattle.ecma_contexts.specs.declared.context_pair.ContextPair.{ContextPair}
use Rattle.ecma_contexts.specs.declared.shared_pairs.Front.{Front}
use Rattle.ecma_contexts.specs.declared.shared_pairs.Front.TheVariants.{Nothing, Of}

abbrev pub Block : Type 0
Block = Arc (Vec ContextPair Global) Global

-- what is in each block
abbrev pub contents : List Block → List (List ContextPair)
contents blocks = map (λ (block : Block). block.value.items) blocks

-- lists behind one another
abbrev pub joined : {A : Type 0} → List (List A) → List A
joined lists = flat_map (λ list. list) lists

-- each list but the last has 2,048 elements, and the last no more
abbrev pub AreFilled : {A : Type 0} → List (List A) → Type 0
AreFilled [] = Unit {0}
AreFilled (list ∷ []) = length list ≤ 2048
AreFilled (list ∷ (next ∷ lists)) = (length list ≡ 2048) × AreFilled (next ∷ lists)

abbrev pub front_of : Front → List ContextPair
front_of Nothing = []
front_of (Of len blocks) = take len (joined (contents blocks.value.items))

-- the blocks have as many
abbrev pub HasFront : Front → Type 0
HasFront Nothing = Unit {0}
HasFront (Of len blocks) = (len ≤ length (joined (contents blocks.value.items))) × AreFilled (contents blocks.value.items)
