-- What a reader finds at the front of a text: a value or a refusal, the faults, and what is read.
use Rattle.std.specs.Prelude.{ℕ, ◌+◌, Bool, false, List, [], map, Result, Ok, Err}
use Rattle.ecma_place.specs.Text.{Text, byte_len}
use Rattle.ecma_place.specs.declared.place.BytePos.{BytePos}
use Rattle.ecma_place.specs.declared.place.Span.{Span}
use Rattle.ecma_token.specs.View.{KindView, TokenView, ErrorView, plain_token, refused_template, error_token, error_view}
use Rattle.ecma_token.specs.declared.error.Error.{Error}
use Rattle.ecma_grammar.specs.declared.found.Blame.{Blame}
use Rattle.ecma_grammar.specs.declared.found.Found.{Found}

-- a fault: who is to blame, and what is wrong where. In definitions, places are counted in bytes from the first that
-- is read
pub record Fault : Type 0 where
  pub blame : Blame
  pub error : ErrorView

-- The same behind n bytes

abbrev pub pos_behind : ℕ → BytePos → BytePos
pos_behind n p = record { 0 = n + p.0 }

abbrev pub span_behind : ℕ → Span → Span
span_behind n s = record { lo = pos_behind n s.lo; hi = pos_behind n s.hi }

abbrev pub error_behind : ℕ → ErrorView → ErrorView
error_behind n e = record { kind = e.kind; span = span_behind n e.span }

abbrev pub fault_behind : ℕ → Fault → Fault
fault_behind n f = record { blame = f.blame; error = error_behind n f.error }

abbrev pub token_behind : ℕ → TokenView → TokenView
token_behind n (plain_token token) = plain_token token
token_behind n (refused_template raw kind span) = refused_template raw kind (span_behind n span)
token_behind n (error_token kind span) = error_token kind (span_behind n span)

-- Places from the first byte on

abbrev pub span_of : ℕ → ℕ → Span
span_of low high = record { lo = record { 0 = low }; hi = record { 0 = high } }

-- an error over the first n bytes
abbrev pub error_over : KindView → ℕ → ErrorView
error_over kind n = record { kind = kind; span = span_of 0 n }

-- an empty error behind n bytes
abbrev pub error_at : KindView → ℕ → ErrorView
error_at kind n = record { kind = kind; span = span_of n n }

-- what a reader finds: the spelling is the text that it reads
pub record Scanned (A : Type 0) : Type 0 where
  pub value : Result A ErrorView
  pub faults : List Fault
  pub spelling : Text
  -- whether a line terminator stands in the text as itself
  pub line_break : Bool

-- What callers see of a `Found`

pub record FoundView (A : Type 0) : Type 0 where
  pub value : Result A ErrorView
  pub faults : List Fault
  pub extent : Span
  pub line_break : Bool

abbrev pub fault_view : Blame × Error → Fault
fault_view f = record { blame = f.0; error = error_view f.1 }

abbrev pub value_view : {T A : Type 0} → (T → A) → Result T Error → Result A ErrorView
value_view seen (Ok value) = Ok (seen value)
value_view seen (Err error) = Err (error_view error)

abbrev pub found_view : {T A : Type 0} → (T → A) → Found T → FoundView A
found_view seen f =
    record { value = value_view seen f.value; faults = map fault_view f.faults.items; extent = f.extent; line_break = f.line_break }

abbrev pub value_behind : {A : Type 0} → (ℕ → A → A) → ℕ → Result A ErrorView → Result A ErrorView
value_behind moved n (Ok value) = Ok (moved n value)
value_behind moved n (Err error) = Err (error_behind n error)

-- what is found at a place: values that hold places are moved by the function
abbrev pub found_at : {A : Type 0} → (ℕ → A → A) → ℕ → Scanned A → FoundView A
found_at moved n s =
    record {
      value = value_behind moved n s.value;
      faults = map (fault_behind n) s.faults;
      extent = span_of n (n + byte_len s.spelling);
      line_break = s.line_break;
    }

-- a value that holds no place
abbrev pub placeless : {A : Type 0} → ℕ → A → A
placeless n value = value

-- a value that is read without a fault
abbrev pub scanned : {A : Type 0} → A → Text → Scanned A
scanned value spelling = record { value = Ok value; faults = []; spelling = spelling; line_break = false }
