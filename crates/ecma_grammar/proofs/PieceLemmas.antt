-- A text and its pieces.
use Rattle.std.proofs.Common.{◌≡◌, ℕ, zero, suc, ◌-◌, ◌<◌, List, [], ◌∷◌, ◌++◌, drop, length, Option, Some, None, refl, ap, ◌∙◌, sym, subst, arith, append_assoc, length-append}
use Rattle.std.proofs.lemmas.List.{drop_at, drop-drop}
use Rattle.std.specs.Prelude.{⊤}
use Rattle.ecma_place.specs.Text.{Text}
use Rattle.ecma_grammar.specs.Pieces.{Cutter, onward, pieces_behind, pieces, spelled, state_behind, remainder}
use Rattle.ecma_grammar.specs.Cutters.{IsCutter, ReadsInOrder}

-- the pieces behind n characters are those of what stands there
pub pieces_behind_is : {S A : Type 0} (cutter : Cutter S A) (s : S) (n : ℕ) (text : Text) → pieces_behind cutter s n text ≡ pieces cutter s (drop n text)
pieces_behind_is cutter s zero [] = refl
pieces_behind_is cutter s (suc n) [] = refl
pieces_behind_is cutter s zero (c ∷ cs) = refl
pieces_behind_is cutter s (suc n) (c ∷ cs) = pieces_behind_is cutter s n cs

pub pieces_none : {S A : Type 0} (cutter : Cutter S A) (s : S) (text : Text) → cutter.read s text ≡ None → pieces cutter s text ≡ []
pieces_none cutter s [] e = refl
pieces_none cutter s (c ∷ cs) e = rw e

drop_less : (n : ℕ) (c : ℕ) (cs : Text) → 0 < n → drop (n - 1) cs ≡ drop n (c ∷ cs)
drop_less zero c cs h = absurd (omega (arith, h))
drop_less (suc n) c cs h = let e : suc n - 1 ≡ n = omega arith in rw e

none_at_end : {S A : Type 0} (cutter : Cutter S A) → IsCutter cutter → (s : S) → cutter.read s [] ≡ None
none_at_end {S} {A} cutter is s = go (cutter.read s []) refl
  where
    go : (o : Option A) → cutter.read s [] ≡ o → o ≡ None
    go None e = refl
    go (Some piece) e =
        let f = is.front s [] piece e in
        absurd (omega (arith, is.some s [] piece e, length-append (cutter.spelling piece) f.0, ap length f.1))

pub pieces_more : {S A : Type 0} (cutter : Cutter S A) → IsCutter cutter → (s : S) (text : Text) (piece : A) → cutter.read s text ≡ Some piece
    → pieces cutter s text ≡ piece ∷ pieces cutter (cutter.next s piece) (drop (length (cutter.spelling piece)) text)
pieces_more cutter is s [] piece e =
    let f = is.front s [] piece e in
    absurd (omega (arith, is.some s [] piece e, length-append (cutter.spelling piece) f.0, ap length f.1))
pieces_more cutter is s (c ∷ cs) piece e =
    let n = length (cutter.spelling piece) in
    rw e
    (ap (λ l. piece ∷ l) (pieces_behind_is cutter (cutter.next s piece) (n - 1) cs ∙ ap (pieces cutter (cutter.next s piece)) (drop_less n c cs (is.some s (c ∷ cs) piece e))))

-- pieces that are read in order are the pieces
pub pieces_in_order : {S A : Type 0} (cutter : Cutter S A) → IsCutter cutter → (s : S) (ps : List A) (rest : Text) → ReadsInOrder cutter s ps rest
    → pieces cutter s (spelled cutter ps ++ rest) ≡ ps
pieces_in_order cutter is s [] rest h = pieces_none cutter s rest h
pieces_in_order cutter is s (piece ∷ more) rest h =
    let text = cutter.spelling piece ++ (spelled cutter more ++ rest) in
    rw append_assoc
    (pieces_more cutter is s text piece h.0
    ∙ ap (λ l. piece ∷ l) (ap (pieces cutter (cutter.next s piece)) (drop_at (cutter.spelling piece) (spelled cutter more ++ rest) _ refl) ∙ pieces_in_order cutter is (cutter.next s piece) more rest h.1))

-- what is found behind n characters: what follows the pieces, that they are a front, and that they are read in order
abbrev pub IsCut : {S A : Type 0} → Cutter S A → S → List A → Text → Type 0
IsCut cutter s ps text = (rest : Text) × (spelled cutter ps ++ rest ≡ text) × ReadsInOrder cutter s ps rest

one_more : {S A : Type 0} (cutter : Cutter S A) → IsCutter cutter → (s : S) (c : ℕ) (cs : Text) (piece : A) (more : List A) → cutter.read s (c ∷ cs) ≡ Some piece
    → IsCut cutter (cutter.next s piece) more (drop (length (cutter.spelling piece) - 1) cs) → IsCut cutter s (piece ∷ more) (c ∷ cs)
one_more cutter is s c cs piece more e (r, spells, order) =
    let f = is.front s (c ∷ cs) piece e in
    let n = length (cutter.spelling piece) in
    let behind : f.0 ≡ drop (n - 1) cs =
    sym (drop_at (cutter.spelling piece) f.0 n refl) ∙ ap (drop n) f.1 ∙ sym (drop_less n c cs (is.some s (c ∷ cs) piece e)) in
    let whole : cutter.spelling piece ++ (spelled cutter more ++ r) ≡ c ∷ cs = ap (λ l. cutter.spelling piece ++ l) (spells ∙ sym behind) ∙ f.1 in
    (r, rw append_assoc whole, (ap (cutter.read s) whole ∙ e, order))

pub cut_behind : {S A : Type 0} (cutter : Cutter S A) → IsCutter cutter → (s : S) (n : ℕ) (text : Text) → IsCut cutter s (pieces_behind cutter s n text) (drop n text)
cut_behind cutter is s zero [] = ([], refl, none_at_end cutter is s)
cut_behind cutter is s (suc n) [] = ([], refl, none_at_end cutter is s)
cut_behind cutter is s (suc n) (c ∷ cs) = cut_behind cutter is s n cs
cut_behind {S} {A} cutter is s zero (c ∷ cs) = go (cutter.read s (c ∷ cs)) refl (λ t m. cut_behind cutter is t m cs)
  where
    go : (o : Option A) → cutter.read s (c ∷ cs) ≡ o → ((t : S) (m : ℕ) → IsCut cutter t (pieces_behind cutter t m cs) (drop m cs))
        → IsCut cutter s (onward o (λ piece. pieces_behind cutter (cutter.next s piece) (length (cutter.spelling piece) - 1) cs)) (c ∷ cs)
    go (Some piece) e more = one_more cutter is s c cs piece (pieces_behind cutter (cutter.next s piece) (length (cutter.spelling piece) - 1) cs) e (more (cutter.next s piece) (length (cutter.spelling piece) - 1))
    go None e more = (c ∷ cs, refl, e)

-- the pieces of a text are a front of it, read in order, and none is read behind them
pub cut : {S A : Type 0} (cutter : Cutter S A) → IsCutter cutter → (s : S) (text : Text) → IsCut cutter s (pieces cutter s text) text
cut cutter is s text = cut_behind cutter is s 0 text

pub remainder_is : {S A : Type 0} (cutter : Cutter S A) → (is : IsCutter cutter) → (s : S) (text : Text) → remainder cutter s text ≡ (cut cutter is s text).0
remainder_is cutter is s text =
    let c = cut cutter is s text in
    let ps = spelled cutter (pieces cutter s text) in
    ap (drop (length ps)) (sym c.1) ∙ drop_at ps c.0 (length ps) refl

-- pieces and what follows them tile the text
pub tiling : {S A : Type 0} (cutter : Cutter S A) → IsCutter cutter → (s : S) (text : Text) → spelled cutter (pieces cutter s text) ++ remainder cutter s text ≡ text
tiling cutter is s text = ap (λ l. spelled cutter (pieces cutter s text) ++ l) (remainder_is cutter is s text) ∙ (cut cutter is s text).1

none_behind : {S A : Type 0} (cutter : Cutter S A) (s : S) (ps : List A) (rest : Text) → ReadsInOrder cutter s ps rest → cutter.read (state_behind cutter s ps) rest ≡ None
none_behind cutter s [] rest h = h
none_behind cutter s (piece ∷ more) rest h = none_behind cutter (cutter.next s piece) more rest h.1

-- and what follows them begins with no piece
pub maximal : {S A : Type 0} (cutter : Cutter S A) → IsCutter cutter → (s : S) (text : Text)
    → cutter.read (state_behind cutter s (pieces cutter s text)) (remainder cutter s text) ≡ None
maximal cutter is s text =
    ap (cutter.read (state_behind cutter s (pieces cutter s text))) (remainder_is cutter is s text)
    ∙ none_behind cutter s (pieces cutter s text) (cut cutter is s text).0 (cut cutter is s text).2

-- what a cutter reads, if anything, is a front of the text, and not empty
abbrev pub FrontIf : {S A : Type 0} → Cutter S A → Option A → Text → Type 0
FrontIf cutter None text = ⊤
FrontIf cutter (Some piece) text = ((rest : Text) × (cutter.spelling piece ++ rest ≡ text)) × (0 < length (cutter.spelling piece))

pub is_cutter : {S A : Type 0} (cutter : Cutter S A) → ((s : S) (text : Text) → FrontIf cutter (cutter.read s text) text) → IsCutter cutter
is_cutter {S} {A} cutter h = record {
  front = λ s text piece e. (at s text piece e).0;
  some = λ s text piece e. (at s text piece e).1;
}
  where
    at : (s : S) (text : Text) (piece : A) → cutter.read s text ≡ Some piece → FrontIf cutter (Some piece) text
    at s text piece e = subst (λ o. FrontIf cutter o text) e (h s text)

-- for a loop that reads a piece a turn: what follows the pieces is what follows those behind the first, and all where none is read
pub remainder_none : {S A : Type 0} (cutter : Cutter S A) (s : S) (text : Text) → cutter.read s text ≡ None → remainder cutter s text ≡ text
remainder_none cutter s text e = ap (λ l. drop (length (spelled cutter l)) text) (pieces_none cutter s text e)

pub remainder_more : {S A : Type 0} (cutter : Cutter S A) → IsCutter cutter → (s : S) (text : Text) (piece : A) → cutter.read s text ≡ Some piece
    → remainder cutter s text ≡ remainder cutter (cutter.next s piece) (drop (length (cutter.spelling piece)) text)
remainder_more cutter is s text piece e =
    let n = length (cutter.spelling piece) in
    let behind = drop n text in
    let ps = pieces cutter (cutter.next s piece) behind in
    ap (λ l. drop (length (spelled cutter l)) text) (pieces_more cutter is s text piece e)
    ∙ ap (λ k. drop k text) (length-append (cutter.spelling piece) (spelled cutter ps))
    ∙ sym (drop-drop (length (spelled cutter ps)) n text)
