-- The markup of a text in parts: what begins it, its pieces, and what ends it.
use Rattle.std.specs.Prelude.{ℕ, ◌≡◌, Bool, true, false, List, ◌++◌, Option}
use Rattle.ecma_span.specs.declared.place.BytePos.{BytePos}
use Rattle.ecma_classes.specs.Classes.{Tile}
use Rattle.ecma_classes.specs.declared.piece.Piece.{Piece}
use Rattle.ecma_styles.specs.declared.«class».Class.{Class}
use Rattle.ecma_styles.specs.Styles.{styled}
use Rattle.ecma_html.specs.Marked.{marked}
use Rattle.ecma_html.specs.Markup.{close_tag, open_tag, pieces_html}
use Rattle.ecma_html.specs.Page.{front_of}
use Rattle.ecma_html.specs.declared.page.TheConstants.{TAIL}

-- the pieces of a text that are left, the classes of the tokens among them, and the places of errors
pub record MarkupLeft : Type 0 where
  pub text : List ℕ
  pub styles : List (Option Class)
  pub pieces : List Piece
  pub places : List BytePos

abbrev pub left_html : MarkupLeft → List ℕ
left_html m = pieces_html m.text (marked m.places (styled m.styles m.pieces))

-- this was added to the bytes, and is left no more
pub record Moves (before after : List ℕ) (old new : MarkupLeft) : Type 0 where
  pub own : List ℕ
  pub added : after ≡ before ++ own
  pub left : left_html old ≡ own ++ left_html new

-- pieces lie from some place up to another
abbrev pub Covers : List Piece → ℕ → Type 0
Covers pieces high = (low : ℕ) × Tile low pieces high

-- what begins a whole page with this title, or the element alone
abbrev pub begin_of : Bool → List ℕ → List ℕ → List ℕ
begin_of true title source = front_of title source ++ open_tag
begin_of false title source = open_tag

-- what ends it
abbrev pub end_of : Bool → List ℕ
end_of true = close_tag ++ TAIL.now
end_of false = close_tag
