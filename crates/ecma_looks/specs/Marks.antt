-- The marks of errors.
use Rattle.std.specs.Prelude.{ℕ, List, map}
use Rattle.std.specs.String.{string_bytes}
use Rattle.ecma_span.specs.declared.place.Span.{Span}
use Rattle.ecma_token.specs.View.{ErrorView}
use Rattle.ecma_token.specs.MessageView.{view_message}
use Rattle.ecma_faults.specs.Faults.{FoundView}
use Rattle.ecma_positions.specs.Positions.{position_in}
use Rattle.ecma_positions.specs.declared.position.Position.{Position}
use Rattle.ecma_show.specs.declared.mark.Mark.{Mark}

-- a mark with its message as bytes
pub record MarkView : Type 0 where
  pub span : Span
  pub line : ℕ
  pub column : ℕ
  pub message : List ℕ

abbrev pub mark_view : Mark → MarkView
mark_view mark = record { span = mark.span; line = mark.line; column = mark.column; message = string_bytes mark.message }

-- that of an error which begins there
abbrev pub mark_at : Position → ErrorView → MarkView
mark_at at error = record { span = error.span; line = at.line; column = at.column; message = view_message error.kind }

abbrev pub mark_seen : List ℕ → FoundView → MarkView
mark_seen text found = mark_at (position_in text found.error.span.lo) found.error

-- those of the errors of a text
abbrev pub marks_seen : List ℕ → List FoundView → List MarkView
marks_seen text found = map (mark_seen text) found
