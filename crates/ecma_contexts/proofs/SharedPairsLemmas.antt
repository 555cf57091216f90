-- Where an element stands in lists of 2,048, and what is left of such lists where they are cut.
use Rattle.std.proofs.Common.{◌≡◌, ◌+◌, ◌*◌, ◌/◌, ◌%◌, ◌-◌, ◌<◌, ◌≤◌, ◌∙◌, ℕ, suc, zero, List, [], ◌∷◌, ◌++◌, arith, length, take, get_or, set, min, ap, sym, refl, subst}
use Rattle.std.proofs.Math.Seq.{set-append_seam, take-append-add, take-length}
use Rattle.std.proofs.lemmas.List.{append-nil, append_assoc, length-append, take-append-le, get_or-map, get_or-take, length-map, length-take-le, map-append, map-set, take-map, take_more}
use Rattle.std.proofs.lemmas.List.Concat.{flat_map-append, get_or-flat_map}
use Rattle.ecma_contexts.specs.declared.context_pair.ContextPair.{ContextPair}
use Rattle.ecma_contexts.specs.SharedPairs.{AreFilled, Block, contents, joined}

joined-end : {A : Type 0} (lists : List (List A)) (list : List A) → joined (lists ++ list ∷ []) ≡ joined lists ++ list
joined-end lists list = flat_map-append (λ l. l) lists (list ∷ []) ∙ ap (λ l. joined lists ++ l) (append-nil list)

length-alone : {A : Type 0} (list : List A) → length (joined (list ∷ [])) ≡ length list
length-alone list = ap length (append-nil list)

-- the list that has the element of such a number is there, and has it
pub filled-at : {A : Type 0} (lists : List (List A)) (whole part : ℕ) → AreFilled lists → part < 2048 → 2048 * whole + part < length (joined lists)
    → (whole < length lists) × (part < length (get_or lists whole []))
filled-at [] whole part filled small within = let no : zero ≡ suc zero = omega (arith, within) in cc no
filled-at (list ∷ []) zero part filled small within = let alone = length-alone list in (omega arith, omega (arith, within, alone))
filled-at (list ∷ []) (suc whole) part filled small within = let alone = length-alone list in let no : zero ≡ suc zero = omega (arith, filled, within, alone) in cc no
filled-at (list ∷ (next ∷ lists)) zero part filled small within = let full = filled.0 in (omega arith, omega (arith, full, small))
filled-at (list ∷ (next ∷ lists)) (suc whole) part filled small within =
    let full = filled.0 in
    let both : length (joined (list ∷ (next ∷ lists))) ≡ length list + length (joined (next ∷ lists)) = length-append list (joined (next ∷ lists)) in
    let rest = filled-at (next ∷ lists) whole part filled.1 small (omega (arith, full, both, within)) in
    let there = rest.0 in
    (omega (arith, there), rest.1)

-- where one list alone is filled before a cut, the cut is at its end
alone-cut : {A : Type 0} (list : List A) (whole part : ℕ) → length list ≤ 2048 → 2048 * suc whole + part ≤ length (joined (list ∷ [])) → (whole ≡ 0) × (part ≡ 0) × (length list ≡ 2048)
alone-cut list whole part filled within = let alone = length-alone list in (omega (arith, filled, within, alone), omega (arith, filled, within, alone), omega (arith, filled, within, alone))

-- the lists before a cut have 2,048 each
pub filled-before : {A : Type 0} (lists : List (List A)) (whole : ℕ) → AreFilled lists → 2048 * whole ≤ length (joined lists) → length (joined (take whole lists)) ≡ 2048 * whole
filled-before lists zero filled within = refl
filled-before [] (suc whole) filled within = let no : zero ≡ suc zero = omega (arith, within) in cc no
filled-before (list ∷ []) (suc whole) filled within =
    let at = alone-cut list whole 0 filled (omega (arith, within)) in
    rw at.0 (length-alone list ∙ at.2)
filled-before (list ∷ (next ∷ lists)) (suc whole) filled within =
    let full = filled.0 in
    let both : length (joined (list ∷ (next ∷ lists))) ≡ length list + length (joined (next ∷ lists)) = length-append list (joined (next ∷ lists)) in
    let rest = filled-before (next ∷ lists) whole filled.1 (omega (arith, full, both, within)) in
    length-append list (joined (take whole (next ∷ lists))) ∙ omega (arith, full, rest)

-- the first elements are those of the lists before a cut, and the first of the next
pub filled-cut : {A : Type 0} (lists : List (List A)) (whole part : ℕ) → AreFilled lists → part < 2048 → 2048 * whole + part ≤ length (joined lists)
    → joined (take whole lists) ++ take part (get_or lists whole []) ≡ take (2048 * whole + part) (joined lists)
filled-cut [] zero part filled small within = let none : part ≡ 0 = omega (arith, within) in rw none refl
filled-cut [] (suc whole) part filled small within = let no : zero ≡ suc zero = omega (arith, within) in cc no
filled-cut (list ∷ []) zero part filled small within = let none : part ≡ 2048 * zero + part = omega arith in ap (take part) (sym (append-nil list)) ∙ ap (λ n. take n (joined (list ∷ []))) none
filled-cut (list ∷ []) (suc whole) part filled small within =
    let at = alone-cut list whole part filled within in
    let full = at.2 in
    let alone = length-alone list in
    let end : length (joined (list ∷ [])) ≡ 2048 * suc zero + zero = omega (arith, full, alone) in
    rw at.0 (rw at.1 (append-nil (joined (list ∷ [])) ∙ sym (take-length (joined (list ∷ []))) ∙ ap (λ n. take n (joined (list ∷ []))) end))
filled-cut (list ∷ (next ∷ lists)) zero part filled small within =
    let full = filled.0 in
    let none : part ≡ 2048 * zero + part = omega arith in
    sym (take-append-le part list (joined (next ∷ lists)) (omega (arith, full, small))) ∙ ap (λ n. take n (joined (list ∷ (next ∷ lists)))) none
filled-cut (list ∷ (next ∷ lists)) (suc whole) part filled small within =
    let full = filled.0 in
    let both : length (joined (list ∷ (next ∷ lists))) ≡ length list + length (joined (next ∷ lists)) = length-append list (joined (next ∷ lists)) in
    let rest = filled-cut (next ∷ lists) whole part filled.1 small (omega (arith, full, both, within)) in
    let sum : 2048 * suc whole + part ≡ length list + (2048 * whole + part) = omega (arith, full) in
    append_assoc list (joined (take whole (next ∷ lists))) (take part (get_or (next ∷ lists) whole []))
    ∙ ap (λ l. list ++ l) rest
    ∙ sym (take-append-add list (joined (next ∷ lists)) (2048 * whole + part))
    ∙ ap (λ n. take n (joined (list ∷ (next ∷ lists)))) (sym sum)

-- a list may stand behind those before a cut
pub filled-put : {A : Type 0} (lists : List (List A)) (whole : ℕ) (list : List A) → AreFilled lists → 2048 * whole ≤ length (joined lists) → length list ≤ 2048 → AreFilled (take whole lists ++ list ∷ [])
filled-put lists zero list filled within fits = fits
filled-put [] (suc whole) list filled within fits = let no : zero ≡ suc zero = omega (arith, within) in cc no
filled-put (first ∷ []) (suc whole) list filled within fits =
    let at = alone-cut first whole 0 filled (omega (arith, within)) in
    rw at.0 (at.2, fits)
filled-put (first ∷ (next ∷ lists)) (suc zero) list filled within fits = (filled.0, fits)
filled-put (first ∷ (next ∷ lists)) (suc (suc whole)) list filled within fits =
    let full = filled.0 in
    let both : length (joined (first ∷ (next ∷ lists))) ≡ length first + length (joined (next ∷ lists)) = length-append first (joined (next ∷ lists)) in
    (full, filled-put (next ∷ lists) (suc whole) list filled.1 (omega (arith, full, both, within)) fits)

-- and those before it are so
pub filled-take : {A : Type 0} (lists : List (List A)) (n : ℕ) → AreFilled lists → AreFilled (take n lists)
filled-take lists zero filled = tt
filled-take [] (suc n) filled = tt
filled-take (list ∷ []) (suc zero) filled = filled
filled-take (list ∷ []) (suc (suc n)) filled = filled
filled-take (list ∷ (next ∷ lists)) (suc zero) filled = let full = filled.0 in omega (arith, full)
filled-take (list ∷ (next ∷ lists)) (suc (suc n)) filled = (filled.0, filled-take (next ∷ lists) (suc n) filled.1)

-- the same of blocks

length-contents : (blocks : List Block) → length (contents blocks) ≡ length blocks
length-contents blocks = length-map blocks (λ (b : Block). b.value.items)

pub block-there : (blocks : List Block) (at : ℕ) → AreFilled (contents blocks) → at < length (joined (contents blocks)) → at / 2048 < length blocks
block-there blocks at filled within =
    let counted = length-contents blocks in
    let there = (filled-at (contents blocks) (at / 2048) (at % 2048) filled (omega arith) (omega (arith, within))).0 in
    omega (arith, counted, there)

block-contents : (blocks : List Block) (at : ℕ) (block : Block) → AreFilled (contents blocks) → at < length (joined (contents blocks)) → block ≡ get_or blocks (at / 2048) block
    → get_or (contents blocks) (at / 2048) [] ≡ block.value.items
block-contents blocks at block filled within found =
    get_or-map (λ (b : Block). b.value.items) blocks (at / 2048) block [] (block-there blocks at filled within) ∙ ap (λ (b : Block). b.value.items) (sym found)

pub pair-there : (blocks : List Block) (at : ℕ) (block : Block) → AreFilled (contents blocks) → at < length (joined (contents blocks)) → block ≡ get_or blocks (at / 2048) block → at % 2048 < length block.value.items
pair-there blocks at block filled within found =
    let there = (filled-at (contents blocks) (at / 2048) (at % 2048) filled (omega arith) (omega (arith, within))).1 in
    let same : length (get_or (contents blocks) (at / 2048) []) ≡ length block.value.items = ap length (block-contents blocks at block filled within found) in
    omega (arith, there, same)

pub pair-taken : (blocks : List Block) (at : ℕ) (block : Block) (pair : ContextPair) → AreFilled (contents blocks) → at < length (joined (contents blocks)) → block ≡ get_or blocks (at / 2048) block → pair ≡ get_or block.value.items (at % 2048) pair
    → take (at + 1) (joined (contents blocks)) ≡ take at (joined (contents blocks)) ++ pair ∷ []
pair-taken blocks at block pair filled within found is = take_more (joined (contents blocks)) at pair within ∙ ap (λ p. take at (joined (contents blocks)) ++ p ∷ []) same
  where
    same : get_or (joined (contents blocks)) at pair ≡ pair
    same =
        let before = filled-before (contents blocks) (at / 2048) filled (omega (arith, within)) in
        let split : at ≡ length (joined (take (at / 2048) (contents blocks))) + at % 2048 = omega (arith, before) in
        let there = filled-at (contents blocks) (at / 2048) (at % 2048) filled (omega arith) (omega (arith, within)) in
        ap (λ n. get_or (joined (contents blocks)) n pair) split
        ∙ get_or-flat_map (λ l. l) (contents blocks) (at / 2048) (at % 2048) [] pair there.0 there.1
        ∙ ap (λ l. get_or l (at % 2048) pair) (block-contents blocks at block filled within found)
        ∙ sym is

take-both : {A : Type 0} (n : ℕ) (xs ys : List A) → take n (xs ++ ys) ≡ take n xs ++ take (n - length xs) ys
take-both zero xs ys = let none : 0 - length xs ≡ 0 = omega arith in ap (λ k. take k ys) (sym none)
take-both (suc n) [] ys = let all : suc n - 0 ≡ suc n = omega arith in ap (λ k. take k ys) (sym all)
take-both (suc n) (x ∷ xs) ys = let fewer : suc n - suc (length xs) ≡ n - length xs = omega arith in ap (λ l. x ∷ l) (take-both n xs ys ∙ ap (λ k. take n xs ++ take k ys) (sym fewer))

-- as many lists as can hold the first elements have them
pub filled-first : {A : Type 0} (lists : List (List A)) (used len : ℕ) → AreFilled lists → len ≤ length (joined lists) → len ≤ 2048 * used
    → (take len (joined (take used lists)) ≡ take len (joined lists)) × (len ≤ length (joined (take used lists)))
filled-first lists zero len filled within fits = let none : len ≡ 0 = omega (arith, fits) in rw none (refl, omega arith)
filled-first [] (suc used) len filled within fits = (refl, within)
filled-first (list ∷ []) (suc zero) len filled within fits = (refl, within)
filled-first (list ∷ []) (suc (suc used)) len filled within fits = (refl, within)
filled-first (list ∷ (next ∷ lists)) (suc used) len filled within fits =
    let full = filled.0 in
    let both : length (joined (list ∷ (next ∷ lists))) ≡ length list + length (joined (next ∷ lists)) = length-append list (joined (next ∷ lists)) in
    let fewer : length (joined (list ∷ take used (next ∷ lists))) ≡ length list + length (joined (take used (next ∷ lists))) = length-append list (joined (take used (next ∷ lists))) in
    let rest = filled-first (next ∷ lists) used (len - length list) filled.1 (omega (arith, full, both, within)) (omega (arith, full, fits)) in
    let has = rest.1 in
    (take-both len list (joined (take used (next ∷ lists))) ∙ ap (λ l. take len list ++ l) rest.0 ∙ sym (take-both len list (joined (next ∷ lists))), omega (arith, fewer, has))

-- none has more
filled-most : {A : Type 0} (lists : List (List A)) (whole : ℕ) → AreFilled lists → length (get_or lists whole []) ≤ 2048
filled-most [] whole filled = omega arith
filled-most (list ∷ []) zero filled = filled
filled-most (list ∷ []) (suc whole) filled = omega arith
filled-most (list ∷ (next ∷ lists)) zero filled = let full = filled.0 in omega (arith, full)
filled-most (list ∷ (next ∷ lists)) (suc whole) filled = filled-most (next ∷ lists) whole filled.1

contents-take : (blocks : List Block) (n : ℕ) → contents (take n blocks) ≡ take n (contents blocks)
contents-take blocks n = sym (take-map (λ (b : Block). b.value.items) n blocks)

-- what is left of blocks that are cut behind those of the first pairs

pub cut-filled : (blocks kept : List Block) (used : ℕ) → AreFilled (contents blocks) → kept ≡ take used blocks → AreFilled (contents kept)
cut-filled blocks kept used filled cut = subst AreFilled (sym (ap contents cut ∙ contents-take blocks used)) (filled-take (contents blocks) used filled)

pub cut-first : (blocks kept : List Block) (used len : ℕ) → AreFilled (contents blocks) → len ≤ length (joined (contents blocks)) → used ≡ len / 2048 + min 1 (len % 2048) → kept ≡ take used blocks
    → (take len (joined (contents kept)) ≡ take len (joined (contents blocks))) × (len ≤ length (joined (contents kept)))
cut-first blocks kept used len filled within counted cut =
    let first = filled-first (contents blocks) used len filled within (omega (arith, counted)) in
    let same : joined (contents kept) ≡ joined (take used (contents blocks)) = ap (λ b. joined (contents b)) cut ∙ ap joined (contents-take blocks used) in
    (ap (take len) same ∙ first.0, rw same first.1)

-- a block that comes behind the others, where they are full

pub cut-put : (blocks kept now : List Block) (block : Block) (pairs : List ContextPair) (used len : ℕ) → AreFilled (contents blocks) → len ≤ length (joined (contents blocks))
    → used ≡ len / 2048 + min 1 (len % 2048) → kept ≡ take used blocks → len % 2048 ≡ 0 → now ≡ kept ++ block ∷ [] → block.value.items ≡ pairs → length pairs ≤ 2048
    → (joined (contents now) ≡ take len (joined (contents blocks)) ++ pairs) × AreFilled (contents now)
cut-put blocks kept now block pairs used len filled within counted cut whole put is fits = (
  ap joined shown ∙ joined-end (take used (contents blocks)) pairs ∙ ap (λ l. l ++ pairs) first,
  subst AreFilled (sym shown) (filled-put (contents blocks) used pairs filled (omega (arith, counted, whole, within)) fits),
)
  where
    shown : contents now ≡ take used (contents blocks) ++ pairs ∷ []
    shown = ap contents put ∙ map-append (λ (b : Block). b.value.items) kept (block ∷ []) ∙ ap (λ l. l ++ block.value.items ∷ []) (ap contents cut ∙ contents-take blocks used) ∙ ap (λ p. take used (contents blocks) ++ p ∷ []) is

    first : joined (take used (contents blocks)) ≡ take len (joined (contents blocks))
    first =
        let at : 2048 * used + 0 ≡ len = omega (arith, counted, whole) in
        sym (append-nil (joined (take used (contents blocks)))) ∙ filled-cut (contents blocks) used 0 filled (omega arith) (omega (arith, counted, whole, within)) ∙ ap (λ n. take n (joined (contents blocks))) at

-- the last of the blocks that are left, where it has pairs that come behind the first ones or room for such

pub record IsLast (blocks kept : List Block) (count len : ℕ) (last : Block) : Type 0 where
  pub has : len % 2048 ≤ length last.value.items
  pub fits : length last.value.items ≤ 2048
  pub before : 2048 * (len / 2048) ≤ length (joined (contents blocks))
  pub first : joined (take (len / 2048) (contents blocks)) ++ take (len % 2048) last.value.items ≡ take len (joined (contents blocks))
  pub changed : (block : Block) → contents (set kept (count - 1) block) ≡ take (len / 2048) (contents blocks) ++ block.value.items ∷ []

pub last-is : (blocks kept : List Block) (used count len : ℕ) (last : Block) → AreFilled (contents blocks) → len ≤ length (joined (contents blocks)) → used ≡ len / 2048 + min 1 (len % 2048) → kept ≡ take used blocks
    → (len % 2048 ≡ 0 → ⊥) → count ≡ length kept → last ≡ get_or kept (count - 1) last → IsLast blocks kept count len last
last-is blocks kept used count len last filled within counted cut some size found = record {
  has = ap-le shown there;
  fits = rw (sym shown) (filled-most (contents blocks) whole filled);
  before = omega (arith, within);
  first =
      let split : 2048 * whole + len % 2048 ≡ len = omega arith in
      ap (λ l. joined (take whole (contents blocks)) ++ take (len % 2048) l) (sym shown)
      ∙ filled-cut (contents blocks) whole (len % 2048) filled (omega arith) (omega (arith, within))
      ∙ ap (λ n. take n (joined (contents blocks))) split;
  changed = λ block. map-set (λ (b : Block). b.value.items) kept (count - 1) block
      ∙ ap (λ n. set (contents kept) n block.value.items) place
      ∙ ap (λ l. set l whole block.value.items) parts
      ∙ ap (λ n. set (take whole (contents blocks) ++ get_or (contents blocks) whole [] ∷ []) n block.value.items) (sym before)
      ∙ set-append_seam (take whole (contents blocks)) (get_or (contents blocks) whole []) [] block.value.items;
}
  where
    whole : ℕ
    whole = len / 2048

    at : 1 ≤ len % 2048
    at = grind (arith, some)

    holds : (whole < length (contents blocks)) × (len % 2048 - 1 < length (get_or (contents blocks) whole []))
    holds = filled-at (contents blocks) whole (len % 2048 - 1) filled (omega arith) (omega (arith, at, within))

    there : len % 2048 ≤ length (get_or (contents blocks) whole [])
    there = let has = holds.1 in omega (arith, at, has)

    last-used : used ≡ whole + 1
    last-used = omega (arith, counted, at)

    inside : whole < length blocks
    inside = let in-contents = holds.0 in let same = length-contents blocks in omega (arith, in-contents, same)

    place : count - 1 ≡ whole
    place = let lengths : length kept ≡ used = ap length cut ∙ length-take-le used blocks (omega (arith, last-used, inside)) in omega (arith, size, lengths, last-used)

    before : length (take whole (contents blocks)) ≡ whole
    before = let in-contents = holds.0 in length-take-le whole (contents blocks) (omega (arith, in-contents))

    parts : contents kept ≡ take whole (contents blocks) ++ get_or (contents blocks) whole [] ∷ []
    parts = ap contents cut ∙ contents-take blocks used ∙ ap (λ n. take n (contents blocks)) last-used ∙ take_more (contents blocks) whole [] holds.0

    shown : get_or (contents blocks) whole [] ≡ last.value.items
    shown =
        get_or-map (λ (b : Block). b.value.items) blocks whole last [] inside
        ∙ ap (λ (b : Block). b.value.items) (sym (found ∙ ap (λ n. get_or kept n last) place ∙ ap (λ l. get_or l whole last) cut ∙ get_or-take used blocks whole last (omega (arith, last-used))))

    ap-le : get_or (contents blocks) whole [] ≡ last.value.items → len % 2048 ≤ length (get_or (contents blocks) whole []) → len % 2048 ≤ length last.value.items
    ap-le same has = rw (sym same) has

-- where pairs come behind the first ones in it
pub last-put : (blocks kept : List Block) (count len : ℕ) (last block : Block) (pairs : List ContextPair) → AreFilled (contents blocks) → IsLast blocks kept count len last
    → block.value.items ≡ take (len % 2048) last.value.items ++ pairs → len % 2048 + length pairs ≤ 2048
    → (joined (contents (set kept (count - 1) block)) ≡ take len (joined (contents blocks)) ++ pairs) × AreFilled (contents (set kept (count - 1) block))
last-put blocks kept count len last block pairs filled is put room = (
  ap joined (is.changed block)
      ∙ joined-end (take (len / 2048) (contents blocks)) block.value.items
      ∙ ap (λ l. joined (take (len / 2048) (contents blocks)) ++ l) put
      ∙ sym (append_assoc (joined (take (len / 2048) (contents blocks))) (take (len % 2048) last.value.items) pairs)
      ∙ ap (λ l. l ++ pairs) is.first,
  subst AreFilled (sym (is.changed block)) (filled-put (contents blocks) (len / 2048) block.value.items filled is.before fits),
)
  where
    fits : length block.value.items ≤ 2048
    fits =
        let sum = ap length put ∙ length-append (take (len % 2048) last.value.items) pairs in
        let first = length-take-le (len % 2048) last.value.items is.has in
        omega (arith, sum, first, room)

-- and where only the first ones stay as they are
pub last-kept : (blocks kept : List Block) (count len : ℕ) (last block : Block) → AreFilled (contents blocks) → IsLast blocks kept count len last
    → take (len % 2048) block.value.items ≡ take (len % 2048) last.value.items → len % 2048 ≤ length block.value.items → length block.value.items ≤ length last.value.items
    → (take len (joined (contents (set kept (count - 1) block))) ≡ take len (joined (contents blocks))) × (len ≤ length (joined (contents (set kept (count - 1) block)))) × AreFilled (contents (set kept (count - 1) block))
last-kept blocks kept count len last block filled is same has fewer = (
  ap (take len) shown ∙ ap (λ n. take n (before ++ block.value.items)) split ∙ take-append-add before block.value.items (len % 2048) ∙ ap (λ l. before ++ l) same ∙ is.first,
  (let sum = ap length shown ∙ length-append before block.value.items in omega (arith, sum, size, has)),
  subst AreFilled (sym (is.changed block)) (filled-put (contents blocks) (len / 2048) block.value.items filled is.before (let fits = is.fits in omega (arith, fits, fewer))),
)
  where
    before : List ContextPair
    before = joined (take (len / 2048) (contents blocks))

    size : length before ≡ 2048 * (len / 2048)
    size = filled-before (contents blocks) (len / 2048) filled is.before

    split : len ≡ length before + len % 2048
    split = omega (arith, size)

    shown : joined (contents (set kept (count - 1) block)) ≡ before ++ block.value.items
    shown = ap joined (is.changed block) ∙ joined-end (take (len / 2048) (contents blocks)) block.value.items

-- blocks of a list of their own that have what the first blocks of another have

filled-count : {A : Type 0} (lists : List (List A)) → AreFilled lists → length (joined lists) ≤ 2048 * length lists
filled-count [] filled = omega arith
filled-count (list ∷ []) filled = let alone = length-alone list in omega (arith, alone, filled)
filled-count (list ∷ (next ∷ lists)) filled =
    let full = filled.0 in
    let both : length (joined (list ∷ (next ∷ lists))) ≡ length list + length (joined (next ∷ lists)) = length-append list (joined (next ∷ lists)) in
    let rest = filled-count (next ∷ lists) filled.1 in
    omega (arith, full, both, rest)

pub used-within : (blocks from : List Block) (used len : ℕ) → AreFilled (contents blocks) → len ≤ length (joined (contents blocks)) → used ≡ len / 2048 + min 1 (len % 2048) → from ≡ blocks → used ≡ length (take used from)
used-within blocks from used len filled within counted same =
    let count = filled-count (contents blocks) filled in
    let lengths = length-contents blocks in
    let kept = ap length same in
    sym (length-take-le used from (omega (arith, count, lengths, within, counted, kept)))

pub same-first : (blocks from own : List Block) (used len : ℕ) → AreFilled (contents blocks) → len ≤ length (joined (contents blocks)) → used ≡ len / 2048 + min 1 (len % 2048) → from ≡ blocks → contents own ≡ contents (take used from)
    → (take len (joined (contents own)) ≡ take len (joined (contents blocks))) × (len ≤ length (joined (contents own))) × AreFilled (contents own)
same-first blocks from own used len filled within counted same put =
    let first = cut-first blocks (take used blocks) used len filled within counted refl in
    let shown : contents own ≡ contents (take used blocks) = put ∙ ap (λ b. contents (take used b)) same in
    (ap (λ b. take len (joined b)) shown ∙ first.0, rw shown first.1, subst AreFilled (sym shown) (cut-filled blocks (take used blocks) used filled refl))
