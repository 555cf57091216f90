-- Rows of errors, and their messages. Their form is our own choice.
use Rattle.std.specs.Prelude.{ℕ, ◌+◌, ◌≡◌, ◌&&◌, List, [], ◌∷◌, ◌++◌, flat_map, map, length, nat_le}
use Rattle.ecma_span.specs.declared.place.Span.{Span}
use Rattle.ecma_token.specs.MessageView.{view_message}
use Rattle.ecma_token.specs.View.{ErrorView}
use Rattle.ecma_state.specs.Session.{Session}
use Rattle.ecma_reader.specs.Outputs.{error_tokens}
use Rattle.ecma_rows.specs.Told.{Told, Nothing, Rows, room_behind, status_of}
use Rattle.ecma_rows.specs.declared.errors.ErrorRow.{ErrorRow}
use Rattle.ecma_rows.specs.declared.errors.Gathered.{Gathered}
use Rattle.ecma_rows.specs.declared.errors.Source.{Source}
use Rattle.ecma_rows.specs.declared.errors.Source.TheVariants.{Token, Recorded, Waiting}
use Rattle.ecma_rows.specs.declared.outcome.Answer.{Answer}

abbrev pub source_number : Source → ℕ
source_number Token = 0
source_number Recorded = 1
source_number Waiting = 2

-- an error, and where it was found
pub record Sourced : Type 0 where
  pub source : Source
  pub error : ErrorView

abbrev pub sourced : Source → List ErrorView → List Sourced
sourced source errors = map (λ e. record { source = source; error = e }) errors

abbrev pub of_tokens : List ErrorView → List Sourced
of_tokens errors = sourced Token errors

abbrev pub message_of : Sourced → List ℕ
message_of e = view_message e.error.kind

-- it was found so, lies there and has this message
pub record IsSaid (e : Sourced) (source : Source) (span : Span) (message : List ℕ) : Type 0 where
  pub source_is : source ≡ e.source
  pub span_is : span ≡ e.error.span
  pub message_is : message ≡ message_of e

-- the row of an error whose message begins there
abbrev pub error_row : ℕ → Sourced → ErrorRow
error_row at e =
    record {
      lo = e.error.span.lo.0;
      hi = e.error.span.hi.0;
      source = source_number e.source;
      message_lo = at;
      message_hi = at + length (message_of e);
    }

-- the rows of errors, each message behind the one before it
abbrev pub rows_from : ℕ → List Sourced → List ErrorRow
rows_from at [] = []
rows_from at (e ∷ es) = error_row at e ∷ rows_from (at + length (message_of e)) es

abbrev pub error_rows : List Sourced → List ErrorRow
error_rows es = rows_from 0 es

-- their messages, joined
abbrev pub messages : List Sourced → List ℕ
messages es = flat_map message_of es

-- the errors of the tokens that are kept, those that were recorded, and those that wait for module code, each in order
abbrev pub all_errors : Session → List Sourced
all_errors s = of_tokens (error_tokens s) ++ (sourced Recorded s.errors.recorded ++ sourced Waiting s.errors.waiting)

-- rows and messages are those of these errors
pub record IsGathered (es : List Sourced) (gathered : Gathered) : Type 0 where
  pub rows : gathered.rows.items ≡ error_rows es
  pub messages : gathered.messages.items ≡ messages es

-- what a call tells of errors: it has two rooms

abbrev pub rows_told : Told Sourced → Told ErrorRow
rows_told (Nothing status) = Nothing status
rows_told (Rows met es) = Rows met (error_rows es)

abbrev pub messages_told : Told Sourced → Told ℕ
messages_told (Nothing status) = Nothing status
messages_told (Rows met es) = Rows met (messages es)

-- there is room for all where there is for the rows and for the messages; rows are counted
abbrev pub errors_answer : Told Sourced → List ErrorRow → List ℕ → Answer
errors_answer (Nothing status) room bytes = record { status = status; count = 0 }
errors_answer (Rows met es) room bytes =
    record {
      status = status_of met (nat_le (length (error_rows es)) (length room) && nat_le (length (messages es)) (length bytes));
      count = length (error_rows es);
    }

-- the answer is given, and both rooms are filled
pub record TellsErrors (told : Told Sourced) (old_rows rows : List ErrorRow) (old_bytes bytes : List ℕ) (answer : Answer) : Type 0 where
  pub answers : answer ≡ errors_answer told old_rows old_bytes
  pub rows_are : rows ≡ room_behind (rows_told told) old_rows
  pub messages_are : bytes ≡ room_behind (messages_told told) old_bytes
