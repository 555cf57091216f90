-- Parts of a text that is written whole.
use Rattle.std.specs.Prelude.{ℕ, ◌≡◌, List, ◌++◌}
use Rattle.ecma_html.specs.Parts.{MarkupLeft, left_html}
use Rattle.ecma_report.specs.Rows.{Look, whole_part}

-- a piece was added as a part, and is left no more
pub record MovesPart (l : Look) (before after : List ℕ) (old new : MarkupLeft) : Type 0 where
  pub own : List ℕ
  pub added : after ≡ before ++ whole_part l own
  pub left : left_html old ≡ own ++ left_html new
