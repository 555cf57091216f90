-- A text cut into pieces from the front on, as many as there are.
use Rattle.std.specs.Prelude.{◌≡◌, ℕ, zero, suc, ◌-◌, List, [], ◌∷◌, ◌++◌, length, drop, Option, Some, None}
use Rattle.ecma_place.specs.Text.{Text}

-- Which piece begins a text in a state, what is written of it, and the state behind it.
pub record Cutter (S A : Type 0) : Type 0 where
  pub read : S → Text → Option A
  pub spelling : A → Text
  pub next : S → A → S

-- a piece, if there is one, and those behind it
abbrev pub onward : {A : Type 0} → Option A → (A → List A) → List A
onward None more = []
onward (Some piece) more = piece ∷ more piece

-- the pieces behind the first n characters
abbrev pub pieces_behind : {S A : Type 0} → Cutter S A → S → ℕ → Text → List A
pieces_behind cutter s n [] = []
pieces_behind cutter s (suc n) (c ∷ cs) = pieces_behind cutter s n cs
pieces_behind cutter s zero (c ∷ cs) =
    onward (cutter.read s (c ∷ cs)) (λ piece. pieces_behind cutter (cutter.next s piece) (length (cutter.spelling piece) - 1) cs)

-- as many pieces as there are, each behind the one before
abbrev pub pieces : {S A : Type 0} → Cutter S A → S → Text → List A
pieces cutter s text = pieces_behind cutter s 0 text

-- what is written of the pieces, in a row
abbrev pub spelled : {S A : Type 0} → Cutter S A → List A → Text
spelled cutter [] = []
spelled cutter (piece ∷ more) = cutter.spelling piece ++ spelled cutter more

-- the state behind the pieces
abbrev pub state_behind : {S A : Type 0} → Cutter S A → S → List A → S
state_behind cutter s [] = s
state_behind cutter s (piece ∷ more) = state_behind cutter (cutter.next s piece) more

-- what follows the pieces of a text
abbrev pub remainder : {S A : Type 0} → Cutter S A → S → Text → Text
remainder cutter s text = drop (length (spelled cutter (pieces cutter s text))) text

-- The pieces of a text and what follows them are the text, and no piece begins what follows.
abbrev pub Tiled : {S A : Type 0} → Cutter S A → S → Text → Type 0
Tiled cutter s text =
    (spelled cutter (pieces cutter s text) ++ remainder cutter s text ≡ text)
    × (cutter.read (state_behind cutter s (pieces cutter s text)) (remainder cutter s text) ≡ None)
