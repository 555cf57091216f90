-- A text as a terminal shows it, with its errors.
use Rattle.std.specs.Prelude.{◌≡◌, ℕ, Bool, List, length, map}
use Rattle.ecma_comments.specs.declared.comments_buffer.BufferedComment.{BufferedComment}
use Rattle.ecma_state.specs.declared.kept.Kept.{Kept}
use Rattle.ecma_classes.specs.Classes.{classes_of}
use Rattle.ecma_faults.specs.Faults.{FoundView}
use Rattle.ecma_show.specs.Shown.{shown_text}
use Rattle.ecma_show.specs.declared.mark.Mark.{Mark}
use Rattle.ecma_show.specs.declared.paint.Part.{Part}
use Rattle.ecma_styles.specs.Styles.{styled}
use Rattle.ecma_styles.specs.Tokens.{token_classes}
use Rattle.ecma_looks.specs.Looks.{parts_of}
use Rattle.ecma_looks.specs.Marks.{mark_view, marks_seen}

-- the parts of a text of which these tokens were kept and these comments collected
abbrev pub parts_kept : List ℕ → List Kept → List BufferedComment → List Part
parts_kept text kept comments = parts_of (styled (token_classes kept) (classes_of 0 (length text) kept comments))

-- the lines show the text, and below them marks of these errors
pub record IsShown (text : List ℕ) (kept : List Kept) (comments : List BufferedComment) (errors : List FoundView) (colours : Bool) (lines : List ℕ) : Type 0 where
  pub marks : List Mark
  pub seen : map mark_view marks ≡ marks_seen text errors
  pub same : lines ≡ shown_text text (parts_kept text kept comments) marks colours
