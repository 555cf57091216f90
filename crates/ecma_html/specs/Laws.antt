-- What a reader of HTML makes of what is written of a text. Whatever its pieces are, as long as they are the text when they
-- are joined, whatever classes its tokens have, and wherever errors lie, it is the text, as HTML can show it.
use Rattle.std.specs.Prelude.{◌≡◌, ℕ, List, Option}
use Rattle.ecma_span.specs.declared.place.BytePos.{BytePos}
use Rattle.ecma_classes.specs.Classes.{joined}
use Rattle.ecma_classes.specs.declared.piece.Piece.{Piece}
use Rattle.ecma_styles.specs.Styles.{styled}
use Rattle.ecma_styles.specs.declared.«class».Class.{Class}
use Rattle.ecma_html.specs.Marked.{marked}
use Rattle.ecma_html.specs.Markup.{html_of}
use Rattle.ecma_html.specs.Page.{page_of}
use Rattle.ecma_html.specs.Unmark.{shown, unmark}

-- of the element alone
abbrev pub HtmlIsTheText : Type 0
HtmlIsTheText =
    (text : List ℕ) (pieces : List Piece) (styles : List (Option Class)) (places : List BytePos) → joined 0 text pieces ≡ text
    → unmark (html_of text (marked places (styled styles pieces))) ≡ shown text

-- of a page, whatever its title is
abbrev pub PagesAreTheText : Type 0
PagesAreTheText =
    (title text : List ℕ) (pieces : List Piece) (styles : List (Option Class)) (places : List BytePos) → joined 0 text pieces ≡ text
    → unmark (page_of title text (html_of text (marked places (styled styles pieces)))) ≡ shown text
