-- What C is answered.
use Rattle.std.specs.Prelude.{ℕ, ◌+◌, ◌≡◌, ◌⊎◌, Bool, List, Result, Ok, Err, if◌then◌else◌}
use Rattle.ecma_rows.specs.ErrorRows.{Sourced, TellsErrors}
use Rattle.ecma_rows.specs.ModuleRows.{ModuleView, TellsModule}
use Rattle.ecma_rows.specs.Told.{IsTold, Told, count_of, status_number}
use Rattle.std.specs.declared.alloc.AllocError.{AllocError}
use Rattle.ecma_rows.specs.declared.errors.ErrorRow.{ErrorRow}
use Rattle.ecma_rows.specs.declared.imports.ModuleAnswer.{ModuleAnswer}
use Rattle.ecma_rows.specs.declared.module_rows.ExportRow.{ExportRow}
use Rattle.ecma_rows.specs.declared.module_rows.ImportRow.{ImportRow}
use Rattle.ecma_rows.specs.declared.outcome.Answer.{Answer}
use Rattle.ecma_rows.specs.declared.outcome.Status.{Status}
use Rattle.ecma_c.specs.declared.EcmaAnswer.{EcmaAnswer}
use Rattle.ecma_c.specs.declared.EcmaModule.{EcmaModule}

-- an answer with its status as a number
abbrev pub exported : Answer → EcmaAnswer
exported answer = record { count = answer.count; status = status_number answer.status }

-- there was no memory
abbrev pub no_memory : EcmaAnswer
no_memory = record { count = 0; status = 5 }

abbrev pub exported_or_none : Result Answer AllocError → EcmaAnswer
exported_or_none (Ok answer) = exported answer
exported_or_none (Err e) = no_memory

-- the answer is that of what is to be told, and the room is filled
pub record IsExported {R : Type 0} (told : Told R) (old new : List R) (answer : EcmaAnswer) : Type 0 where
  pub plain : Answer
  pub is : answer ≡ exported plain
  pub tells : IsTold told old new plain

-- unless there was no memory
abbrev pub Tells : {R : Type 0} → Told R → List R → List R → EcmaAnswer → Type 0
Tells told old new answer = (answer ≡ no_memory) ⊎ IsExported told old new answer

abbrev pub Counts : {R : Type 0} → Told R → EcmaAnswer → Type 0
Counts told answer = (answer ≡ no_memory) ⊎ (answer ≡ exported (count_of told))

-- the same of errors, which have two rooms
pub record ExportsErrors (told : Told Sourced) (old_rows rows : List ErrorRow) (old_bytes bytes : List ℕ) (answer : EcmaAnswer) : Type 0 where
  pub plain : Answer
  pub is : answer ≡ exported plain
  pub tells : TellsErrors told old_rows rows old_bytes bytes plain

abbrev pub ToldErrors : Told Sourced → List ErrorRow → List ErrorRow → List ℕ → List ℕ → EcmaAnswer → Type 0
ToldErrors told old_rows rows old_bytes bytes answer = (answer ≡ no_memory) ⊎ ExportsErrors told old_rows rows old_bytes bytes answer

-- and of a module

-- 1 where it is a facade, 2 where it has module syntax
abbrev pub module_flags : Bool → Bool → ℕ
module_flags facade syntax = (if facade then 1 else 0) + (if syntax then 2 else 0)

abbrev pub exported_module : ModuleAnswer → EcmaModule
exported_module answer =
    record { imports = answer.imports; exports = answer.exports; status = status_number answer.status; flags = module_flags answer.is_facade answer.has_module_syntax }

abbrev pub no_module : EcmaModule
no_module = record { imports = 0; exports = 0; status = 5; flags = 0 }

abbrev pub module_or_none : Result ModuleAnswer AllocError → EcmaModule
module_or_none (Ok answer) = exported_module answer
module_or_none (Err e) = no_module

pub record ExportsModule (told : Result ModuleView Status) (old_imports imports : List ImportRow) (old_exports exports : List ExportRow) (answer : EcmaModule) : Type 0 where
  pub plain : ModuleAnswer
  pub is : answer ≡ exported_module plain
  pub tells : TellsModule told old_imports imports old_exports exports plain

abbrev pub ToldModule : Result ModuleView Status → List ImportRow → List ImportRow → List ExportRow → List ExportRow → EcmaModule → Type 0
ToldModule told old_imports imports old_exports exports answer = (answer ≡ no_module) ⊎ ExportsModule told old_imports imports old_exports exports answer
