-- Blocks of comments that are added behind one another.
use Rattle.std.specs.Prelude.{Result, Ok, Err, IsOk, OnOk}
use Rattle.std.proofs.Common.{arith, suc, zero, ◌≡◌, ◌∙◌, ℕ, ◌+◌, ◌-◌, ◌<◌, ◌≤◌, List, [], ◌∷◌, ◌++◌, length, take, drop, take-append-drop, refl, ap, sym, subst}
use Rattle.std.proofs.Math.Seq.{take-append-add, take-append_seam}
use Rattle.std.proofs.lemmas.Grind.{flat_map-append}
use Rattle.std.proofs.lemmas.List.{append-nil, append_assoc, length-append, length-take-le, take-append-le}
use Rattle.std.proofs.lemmas.List.Elements.{All-same, All-tail, All-take}
use Rattle.std.specs.List.{All}
use Rattle.ecma_comments.specs.SharedComments.{AreShared, Block, CutsBlock, IsBorrowed, of_blocks}
use Rattle.ecma_comments.specs.declared.comments_buffer.BufferedComment.{BufferedComment}

-- what holds of each element of two lists holds of those of the first, and of those of the second

pub all-before : {A : Type 0} (P : A → Type 0) (xs ys : List A) → All P (xs ++ ys) → All P xs
all-before P xs ys h = All-same P xs (take (length xs) (xs ++ ys)) (sym (take-append_seam xs ys)) (All-take P (length xs) (xs ++ ys) h)

pub all-behind : {A : Type 0} (P : A → Type 0) (xs ys : List A) → All P (xs ++ ys) → All P ys
all-behind P [] ys h = h
all-behind P (x ∷ xs) ys h = all-behind P xs ys (All-tail P x (xs ++ ys) h)

-- what is left of two lists behind one another, but the first ones
pub drop_both : {A : Type 0} (n : ℕ) (xs ys : List A) → drop n (xs ++ ys) ≡ drop n xs ++ drop (n - length xs) ys
drop_both zero xs ys = let none : 0 - length xs ≡ 0 = omega arith in ap (λ k. xs ++ drop k ys) (sym none)
drop_both (suc n) [] ys = let all : suc n - 0 ≡ suc n = omega arith in ap (λ k. drop k ys) (sym all)
drop_both (suc n) (x ∷ xs) ys = let fewer : suc n - suc (length xs) ≡ n - length xs = omega arith in drop_both n xs ys ∙ ap (λ k. drop n xs ++ drop k ys) (sym fewer)

-- what was added so far, with what is left, is what is to be added, and there is room for it
pub record IsAdding (begin all added left : List BufferedComment) (room : ℕ) : Type 0 where
  pub behind : added ++ left ≡ begin ++ all
  pub borrowed : All IsBorrowed left
  pub fits : length added + length left ≤ room

pub adding-start : (begin all left : List BufferedComment) (room : ℕ) → left ≡ all → All IsBorrowed all → length begin + length all ≤ room → IsAdding begin all begin left room
adding-start begin all left room same borrowed fits = record { behind = rw same refl; borrowed = subst (All IsBorrowed) (sym same) borrowed; fits = rw same fits }

pub adding-next : (begin all added left first more next : List BufferedComment) (room : ℕ) → IsAdding begin all added left room → left ≡ first ++ more → next ≡ added ++ first → IsAdding begin all next more room
adding-next begin all added left first more next room so_far parts put = record {
  behind =
      ap (λ list. list ++ more) put
      ∙ append_assoc added first more
      ∙ ap (λ list. added ++ list) (sym parts)
      ∙ so_far.behind;
  borrowed = all-behind IsBorrowed first more (subst (All IsBorrowed) parts so_far.borrowed);
  fits =
      let before : length added + length left ≤ room = so_far.fits in
      let parts-length : length left ≡ length first + length more = ap length parts ∙ length-append first more in
      rw put (rw (length-append added first) (omega (arith, before, parts-length)));
}

pub adding-end : (begin all added left : List BufferedComment) (room : ℕ) → IsAdding begin all added left room → left ≡ [] → added ≡ begin ++ all
adding-end begin all added left room so_far none = sym (append-nil added) ∙ ap (λ list. added ++ list) (sym none) ∙ so_far.behind

-- what holds where a call succeeded, where it did
pub where-ok : {A B P : Type 0} → (result : Result A B) → OnOk result P → IsOk result → P
where-ok (Ok value) holds ok = holds
where-ok (Err error) holds ok = cc

-- where a list of comments is cut

pub of-blocks-end : (old new : List Block) (block : Block) → old ≡ new ++ block ∷ [] → of_blocks old ≡ of_blocks new ++ block.value.items
of-blocks-end old new block e =
    ap of_blocks e
    ∙ flat_map-append (λ (b : Block). b.value.items) new (block ∷ [])
    ∙ ap (λ list. of_blocks new ++ list) (append-nil block.value.items)

-- what is added of one block more, where the first so many comments are passed
pub added-next : (begin added now block : List BufferedComment) (old new : List Block) (item : Block) (skip left less : ℕ)
    → (added ≡ begin ++ drop skip (of_blocks old)) × (left ≡ skip - length (of_blocks old)) → new ≡ old ++ item ∷ [] → block ≡ item.value.items
    → now ≡ added ++ drop left block → less ≡ left - length block
    → (now ≡ begin ++ drop skip (of_blocks new)) × (less ≡ skip - length (of_blocks new))
added-next begin added now block old new item skip left less so_far more same put passed = (
  put
      ∙ ap (λ list. list ++ drop left block) so_far.0
      ∙ append_assoc begin (drop skip (of_blocks old)) (drop left block)
      ∙ ap (λ list. begin ++ list) (ap (λ n. drop skip (of_blocks old) ++ drop n block) so_far.1 ∙ sym (drop_both skip (of_blocks old) block) ∙ ap (drop skip) (sym apart)),
  (let counted = so_far.1 in let sum : length (of_blocks new) ≡ length (of_blocks old) + length block = ap length apart ∙ length-append (of_blocks old) block in omega (arith, counted, passed, sum)),
)
  where
    apart : of_blocks new ≡ of_blocks old ++ block
    apart = of-blocks-end new old item more ∙ ap (λ list. of_blocks old ++ list) (sym same)

-- the first comments, where some of them stand in the block that was cut off
pub cut-first : (all kept block last : List BufferedComment) (before len : ℕ)
    → take (before + length block) all ≡ kept ++ block → before ≡ length kept → before ≤ len → len < before + length block
    → take len (all ++ last) ≡ kept ++ take (len - before) block
cut-first all kept block last before len order counted begins ends =
    ap (take len) whole ∙ ap (λ n. take n (kept ++ (block ++ (more ++ last)))) split ∙ take-append-add kept (block ++ (more ++ last)) (len - before)
    ∙ ap (λ list. kept ++ list) (take-append-le (len - before) block (more ++ last) (omega (arith, begins, ends)))
  where
    more : List BufferedComment
    more = drop (before + length block) all

    whole : all ++ last ≡ kept ++ (block ++ (more ++ last))
    whole =
        ap (λ list. list ++ last) (sym (take-append-drop (before + length block) all) ∙ ap (λ list. list ++ more) order)
        ∙ append_assoc (kept ++ block) more last
        ∙ append_assoc kept block (more ++ last)

    split : len ≡ length kept + (len - before)
    split = omega (arith, counted, begins)

-- a block that is taken off leaves the comments before it
pub cut-step : (all : List BufferedComment) (old new : List Block) (block : Block) (before count : ℕ)
    → before ≡ length (of_blocks old) → take before all ≡ of_blocks old → old ≡ new ++ block ∷ [] → count ≡ length block.value.items
    → (before - count ≡ length (of_blocks new)) × (take (before - count) all ≡ of_blocks new)
cut-step all old new block before count counted begins e size = (left, first)
  where
    apart : of_blocks old ≡ of_blocks new ++ block.value.items
    apart = of-blocks-end old new block e

    sum : length (of_blocks old) ≡ length (of_blocks new) + length block.value.items
    sum = ap length apart ∙ length-append (of_blocks new) block.value.items

    left : before - count ≡ length (of_blocks new)
    left = omega (arith, counted, size, sum)

    first : take (before - count) all ≡ of_blocks new
    first =
        ap (take (before - count)) (sym (take-append-drop before all))
        ∙ take-append-le (before - count) (take before all) _ (rw begins (omega (arith, left, sum)))
        ∙ ap (take (before - count)) (begins ∙ apart)
        ∙ ap (λ n. take n (of_blocks new ++ block.value.items)) left
        ∙ take-append_seam (of_blocks new) block.value.items

-- comments that stand behind those of the blocks
pub cut-behind : (kept last now : List BufferedComment) (count len : ℕ) → count ≡ length kept → count ≤ len → now ≡ take (len - count) last → kept ++ now ≡ take len (kept ++ last)
cut-behind kept last now count len counted behind e =
    let split : len ≡ length kept + (len - count) = omega (arith, counted, behind) in
    ap (λ list. kept ++ list) e ∙ sym (ap (λ n. take n (kept ++ last)) split ∙ take-append-add kept last (len - count))

-- what is left where a block was cut off, and some of its comments stand behind the others

cut-borrowed : (old new : List Block) (block : Block) (before len : ℕ) → CutsBlock old new block before len → All IsBorrowed (of_blocks old)
    → All IsBorrowed (of_blocks new ++ block.value.items)
cut-borrowed old new block before len cut all = subst (All IsBorrowed) cut.order (All-take IsBorrowed (before + length block.value.items) (of_blocks old) all)

-- the copies of its first comments do not allocate
pub first-borrowed : (old new : List Block) (block : Block) (before len n : ℕ) → CutsBlock old new block before len → All IsBorrowed (of_blocks old)
    → All IsBorrowed (take n block.value.items)
first-borrowed old new block before len n cut all =
    All-take IsBorrowed n block.value.items (all-behind IsBorrowed (of_blocks new) block.value.items (cut-borrowed old new block before len cut all))

-- copies of its first comments, behind none
pub put-first : {A B : Type 0} → (old new : List Block) (block : Block) (before len : ℕ) (result : Result A B) (cleared slice now : List BufferedComment) → CutsBlock old new block before len
    → All IsBorrowed (of_blocks old) → OnOk result (now ≡ cleared ++ take (len - before) slice) → (All IsBorrowed (take (len - before) slice) → IsOk result)
    → cleared ≡ [] → slice ≡ block.value.items → now ≡ take (len - before) block.value.items
put-first old new block before len result cleared slice now cut all copied free none same =
    where-ok result copied (free (subst (λ list. All IsBorrowed (take (len - before) list)) (sym same) (first-borrowed old new block before len (len - before) cut all)))
    ∙ ap (λ list. list ++ take (len - before) slice) none
    ∙ ap (take (len - before)) same

pub cut-list : (old new : List Block) (block : Block) (last kept : List BufferedComment) (before len : ℕ) → CutsBlock old new block before len
    → kept ≡ take (len - before) block.value.items → of_blocks new ++ kept ≡ take len (of_blocks old ++ last)
cut-list old new block last kept before len cut e =
    ap (λ list. of_blocks new ++ list) e ∙ sym (cut-first (of_blocks old) (of_blocks new) block.value.items last before len cut.order cut.counted cut.begins cut.ends)

pub cut-shared : (old new : List Block) (block : Block) (count others room before len kept now : ℕ) → CutsBlock old new block before len
    → AreShared (of_blocks old) count others room → len < count → kept ≡ len - before → now ≡ room → AreShared (of_blocks new) before kept now
cut-shared old new block count others room before len kept now cut are within size same =
    let begins = cut.begins in
    let fits = are.fits in
    record {
      borrowed = all-before IsBorrowed _ _ (cut-borrowed old new block before len cut are.borrowed);
      counted = cut.counted;
      fits = omega (arith, begins, fits, within, size, same);
    }

pub first-length : (old new : List Block) (block : Block) (before len : ℕ) → CutsBlock old new block before len
    → length (take (len - before) block.value.items) ≡ len - before
first-length old new block before len cut =
    let begins = cut.begins in
    let ends = cut.ends in
    length-take-le (len - before) block.value.items (omega (arith, begins, ends))
