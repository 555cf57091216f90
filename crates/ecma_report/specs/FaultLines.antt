-- Lines of faults, which people read on standard error.
use Rattle.std.specs.Prelude.{◌≡◌, ℕ, ◌==◌, List, [], ◌∷◌, ◌++◌, ◌||◌, Bool, true, false, codes, flat_map, if◌then◌else◌, length, not}
use Rattle.std.specs.Fmt.{decimal}
use Rattle.std.specs.List.{list_any}
use Rattle.ecma_span.specs.declared.place.Span.{Span}
use Rattle.ecma_token.specs.MessageView.{view_message}
use Rattle.ecma_faults.specs.Faults.{FoundView, IsByPlace}
use Rattle.ecma_faults.specs.declared.found.Origin.{Origin}
use Rattle.ecma_faults.specs.declared.found.Origin.TheVariants.{Waiting}
use Rattle.ecma_positions.specs.Columns.{position_by}
use Rattle.ecma_positions.specs.declared.position.Position.{Position}
use Rattle.ecma_messages.specs.Visible.{message_text, name_text}
use Rattle.ecma_report.specs.Rows.{Look}
use Rattle.ecma_report.specs.declared.report.Report.{Report}
use Rattle.ecma_command.specs.declared.words.Face.{Face}
use Rattle.ecma_command.specs.declared.words.Face.TheVariants.{Errors, Show}

-- the name of the file, a line and a column
abbrev pub place_in : List ℕ → Position → List ℕ
place_in file at = name_text file ++ 58 ∷ (decimal at.line ++ 58 ∷ decimal at.column)

-- and a message, in one line
abbrev pub line_at : List ℕ → Position → List ℕ → List ℕ
line_at file at message = place_in file at ++ (codes ": " ++ (message_text message ++ 10 ∷ []))

-- of what is wrong at a span of the text
abbrev pub fault_line : Look → List ℕ → List ℕ → Span → List ℕ → List ℕ
fault_line l file text span message = line_at file (position_by l.asked.columns text span.lo) message

-- an error that waits is no fault: it counts in module code alone
abbrev pub is_fault : Origin → Bool
is_fault Waiting = false
is_fault _ = true

abbrev pub fault_of : Look → List ℕ → List ℕ → FoundView → List ℕ
fault_of l file text found = if is_fault found.origin then fault_line l file text found.error.span (view_message found.error.kind) else []

abbrev pub has_fault : List FoundView → Bool
has_fault found = list_any (λ f. is_fault f.origin) found

-- errors are told in lines of faults where they have no row of their own, and are not shown in the text
abbrev pub tells_faults : Face → Bool
tells_faults Errors = false
tells_faults Show = false
tells_faults _ = true

abbrev pub told_fault : Look → List ℕ → List ℕ → FoundView → List ℕ
told_fault l file text found = if tells_faults l.asked.face then fault_of l file text found else []

abbrev pub told_faults : Look → List ℕ → List ℕ → List FoundView → List ℕ
told_faults l file text found = flat_map (told_fault l file text) found

-- Lines behind a text, and whether it is faulty

-- whether it is, as it was before, or as there are lines of places that are no slash's, or as another fault was found
abbrev pub is_faulty_behind : Bool → List ℕ → Bool → Bool
is_faulty_behind before unmet other = before || (not (length unmet == 0) || other)

-- The lines of places that are no slash's come before all others. The second part says whether another fault was found.
pub record OfUnmet (unmet : List ℕ) (other : Bool) (old new : Report) : Type 0 where
  pub whole : new.faults.items ≡ unmet ++ old.faults.items
  pub faulty : new.is_faulty ≡ is_faulty_behind old.is_faulty unmet other

-- and the lines of these errors, in order of place, stand behind those of before
pub record OfFaults (unmet : List ℕ) (l : Look) (file text : List ℕ) (found : List FoundView) (old new : Report) : Type 0 where
  pub ordered : List FoundView
  pub by_place : IsByPlace found ordered
  pub whole : new.faults.items ≡ unmet ++ (old.faults.items ++ told_faults l file text ordered)
  pub faulty : new.is_faulty ≡ is_faulty_behind old.is_faulty unmet (has_fault found)
