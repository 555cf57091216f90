-- An iterator gives nothing behind its end, where no slash is read again.
use Rattle.std.proofs.Common.{◌≡◌, ◌∙◌, ◌⊎◌, inl, inr, Bool, true, false, List, [], ◌∷◌, Some, None, Ok, Err, refl, sym, subst, ap}
use Rattle.std.proofs.lemmas.Option.{none-some}
use Rattle.ecma_place.specs.Cursor.{rest}
use Rattle.ecma_state.specs.Run.{mode_of, reading_from, reading_of}
use Rattle.ecma_state.specs.Reading.{reading}
use Rattle.ecma_state.specs.Session.{LexerValue, lexer_state}
use Rattle.ecma_state.specs.Items.{GivesItem, ItemIf, ReadItem}
use Rattle.ecma_reads.proofs.EndLemmas.{reading-end, reading-on}
use Rattle.ecma_laws.specs.NothingBehind.{AllNothing, GivesItems, Item, NothingBehindTheEnd}

-- memory was refused, or the text is read and no slash is read again
abbrev IsOver : LexerValue → Type 0
IsOver l = (l.refused ≡ true) ⊎ ((l.refused ≡ false) × (l.reread ≡ None) × (rest l.input ≡ []))

-- a read that answers the end leaves nothing
read-over : (old new : LexerValue) → old.refused ≡ false → old.reread ≡ None → ReadItem old None new → IsOver new
read-over old new given plain (found, moved) =
    let l = lexer_state old in
    let from : reading_of l ≡ reading (mode_of l) old.input = ap (λ slash. reading_from slash l) plain in
    let none : (reading (mode_of l) old.input).found ≡ None = ap (λ r. r.found) (sym from) ∙ found in
    let left : rest (reading (mode_of l) old.input).input ≡ [] = (reading-on (mode_of l) old.input).ending none in
    inr (
      ap (λ l. l.refused) moved ∙ given,
      ap (λ l. l.reread) moved ∙ plain,
      ap (λ l. rest l.input) moved ∙ ap (λ r. rest r.input) from ∙ left,
    )

-- nothing is read any more
item-over : (old new : LexerValue) (item : Item) → IsOver old → GivesItem old item new → (item ≡ None) × IsOver new
item-over old new item (inl refused) gives =
    let (none, same) = subst (λ b. ItemIf b old item new) refused gives in
    (none, inl (ap (λ l. l.refused) same ∙ refused))
item-over old new item (inr (given, plain, left)) gives =
    go item (subst (λ b. ItemIf b old item new) given gives)
  where
    go : (item : Item) → ReadItem old item new → (item ≡ None) × IsOver new
    go None reads = (refl, read-over old new given plain reads)
    go (Some (Err error)) is = absurd (is.more plain left)
    go (Some (Ok token)) (found, moved) =
        let l = lexer_state old in
        let none : (reading_of l).found ≡ None = ap (λ slash. (reading_from slash l).found) plain ∙ ap (λ r. r.found) (reading-end (mode_of l) old.input left) in
        absurd (none-some _ (sym none ∙ found))

items-over : (old new : LexerValue) (items : List Item) → IsOver old → GivesItems old items new → AllNothing items
items-over old new [] over gives = tt
items-over old new (item ∷ items) over (between, gives, more) =
    let (none, still) = item-over old between item over gives in (none, items-over between new items still more)

first-over : (old new : LexerValue) → old.reread ≡ None → (refused : Bool) → old.refused ≡ refused → ItemIf refused old None new → IsOver new
first-over old new plain true e (none, same) = inl (ap (λ l. l.refused) same ∙ e)
first-over old new plain false e reads = read-over old new e plain reads

pub nothing_behind_the_end : NothingBehindTheEnd
nothing_behind_the_end old new items plain (between, gives, more) =
    items-over between new items (first-over old between plain old.refused refl gives) more
