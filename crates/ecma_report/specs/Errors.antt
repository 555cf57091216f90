-- Rows of errors.
use Rattle.std.specs.Prelude.{ℕ, List, flat_map, false}
use Rattle.ecma_token.specs.MessageView.{view_message}
use Rattle.ecma_state.specs.Session.{Session}
use Rattle.ecma_faults.specs.Faults.{FoundView, IsByPlace, all_of, origin_name}
use Rattle.ecma_print.specs.Rows.{message}
use Rattle.ecma_reader.specs.Outputs.{error_tokens}
use Rattle.ecma_report.specs.Rows.{Look, row_of}
use Rattle.ecma_report.specs.Runs.{read_to}
use Rattle.ecma_command.specs.declared.words.Named.{Named}

-- where it comes from, where it is, and its message
abbrev pub error_row : Look → List ℕ → List ℕ → FoundView → List ℕ
error_row l file text found = row_of l file text (origin_name found.origin) found.error.span message (view_message found.error.kind)

abbrev pub error_rows : Look → List ℕ → List ℕ → List FoundView → List ℕ
error_rows l file text found = flat_map (error_row l file text) found

-- the errors of a session: its tokens that are one, those that were recorded, and those that wait
abbrev pub errors_behind : Session → List FoundView
errors_behind s = all_of (error_tokens s) s.errors.recorded s.errors.waiting

-- those of a text, read as it is asked for
abbrev pub errors_by : Named → Look → List ℕ → List FoundView
errors_by named l text = errors_behind (read_to false named l text)

-- this holds of the rows of these errors in order of place
pub record OfRowsByPlace (l : Look) (file text : List ℕ) (found : List FoundView) (P : List ℕ → Type 0) : Type 0 where
  pub ordered : List FoundView
  pub by_place : IsByPlace found ordered
  pub holds : P (error_rows l file text ordered)
