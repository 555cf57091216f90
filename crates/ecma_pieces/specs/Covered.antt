-- What a run keeps and collects lies in its text so that pieces can cover it.
use Rattle.std.specs.Prelude.{ℕ, List, length}
use Rattle.std.specs.List.{All}
use Rattle.std.specs.Str.{chars}
use Rattle.ecma_place.specs.Cursor.{Cursor}
use Rattle.ecma_comments.specs.declared.comments_buffer.BufferedComment.{BufferedComment}
use Rattle.ecma_state.specs.declared.kept.Kept.{Kept}
use Rattle.ecma_state.specs.declared.settings.Settings.{Settings}
use Rattle.ecma_state.specs.declared.step.Step.{Step}
use Rattle.ecma_state.specs.Run.{session, start_of}
use Rattle.ecma_state.specs.Session.{kept_tokens}
use Rattle.ecma_classes.specs.Classes.{AreApart, LieInOrder, LiesWell, StandsIn, begin, classes_of, comment_spans, spans_of_comments, spans_of_kept, token_spans}
use Rattle.ecma_classes.specs.declared.piece.Piece.{Piece}
use Rattle.ecma_replay.specs.Replay.{Replays}
use Rattle.ecma_replay.specs.declared.replayed.Replay.{Replay}

-- The tokens lie in the text of a cursor between places, in order, none over another; the comments lie in it so; no byte
-- lies in two of them; and each that holds a byte lies in one token or outside all.
pub record MayBeCovered (c : Cursor) (kept : List Kept) (comments : List BufferedComment) : Type 0 where
  pub tokens_stand : All (StandsIn c) (spans_of_kept kept)
  pub in_order : LieInOrder c.start (spans_of_kept kept)
  pub comments_stand : All (StandsIn c) (spans_of_comments comments)
  pub apart : AreApart (comment_spans comments)
  pub inside_or_outside : All (LiesWell (token_spans kept)) (comment_spans comments)

-- the pieces that cover a text with these bytes, which starts at a place, of what steps keep and collect of it
abbrev pub pieces_of : Settings → ℕ → List ℕ → List Step → List Piece
pieces_of settings start bytes steps =
    classes_of start (length bytes) (kept_tokens (session settings (begin start (chars bytes)) steps)) (session settings (begin start (chars bytes)) steps).comments

-- Laws

-- Whatever the steps of a run were, and wherever in its text it began, what it keeps and collects lies so.
abbrev pub RunsMayBeCovered : Type 0
RunsMayBeCovered =
    (settings : Settings) (input : Cursor) (steps : List Step)
    → MayBeCovered input (kept_tokens (session settings input steps)) (session settings input steps).comments

-- So does what a replay of the steps tells.
abbrev pub ReplaysMayBeCovered : Type 0
ReplaysMayBeCovered =
    (settings : Settings) (input : Cursor) (steps : List Step) (r : Replay) → Replays (start_of settings input) steps r
    → MayBeCovered input r.kept.items r.comments.items
