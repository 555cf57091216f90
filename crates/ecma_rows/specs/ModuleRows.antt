-- Rows of imports and exports. Their form is our own choice.
use Rattle.std.specs.Prelude.{ℕ, ◌+◌, ◌-◌, ◌*◌, ◌==◌, ◌&&◌, ◌||◌, ◌≡◌, Bool, false, List, [], ◌∷◌, Option, Some, None, Result, Ok, Err, if◌then◌else◌, length, map, nat_le, slice_range}
use Rattle.std.specs.List.{list_any}
use Rattle.ecma_span.specs.declared.place.Span.{Span}
use Rattle.ecma_module_table.specs.Rows.{named_at}
use Rattle.ecma_module_table.specs.declared.rows.Argument.{Argument}
use Rattle.ecma_module_table.specs.declared.rows.Export.{Export}
use Rattle.ecma_module_table.specs.declared.rows.Form.{Form}
use Rattle.ecma_module_table.specs.declared.rows.Form.TheVariants as form
use Rattle.ecma_module_table.specs.declared.rows.Import.{Import}
use Rattle.ecma_module_table.specs.declared.rows.ModuleOptions.{ModuleOptions}
use Rattle.ecma_module_table.specs.declared.rows.Phase.{Phase}
use Rattle.ecma_module_table.specs.declared.rows.Phase.TheVariants as phase
use Rattle.ecma_module_table.specs.declared.rows.Specifier.{Specifier}
use Rattle.ecma_modules.specs.Modules as modules
use Rattle.ecma_modules.specs.Modules.{exports_of, imports_of}
use Rattle.ecma_module_reader.specs.Readings.{module_tokens}
use Rattle.ecma_modules.specs.declared.module.Module.{Module}
use Rattle.ecma_modules.specs.declared.region.ModuleToken.{ModuleToken}
use Rattle.ecma_reader.specs.Readers.{tokens_by}
use Rattle.ecma_reader.specs.Rereads.{steps_to_end_by}
use Rattle.ecma_rows.specs.Asked.{AskedView, begin, has}
use Rattle.ecma_rows.specs.Told.{are_met, status_of, written}
use Rattle.ecma_rows.specs.declared.imports.ModuleAnswer.{ModuleAnswer}
use Rattle.ecma_rows.specs.declared.module_rows.ExportRow.{ExportRow}
use Rattle.ecma_rows.specs.declared.module_rows.ImportRow.{ImportRow}
use Rattle.ecma_rows.specs.declared.outcome.Status.{Status}

-- Parts of rows

abbrev pub form_number : Form → ℕ
form_number form.Static = 0
form_number form.Reexport = 1
form_number form.Call = 2
form_number form.Meta = 3
form_number form.Equals = 4
form_number form.Ambient = 5
form_number form.Require = 6

abbrev pub phase_number : Phase → ℕ
phase_number phase.Evaluation = 0
phase_number phase.Defer = 1
phase_number phase.Source = 2

abbrev pub paren_of : Option Argument → ℕ
paren_of (Some argument) = argument.paren.0
paren_of None = 0

abbrev pub span_or_nowhere : Option Span → Span
span_or_nowhere (Some span) = span
span_or_nowhere None = record { lo = record { 0 = 0 }; hi = record { 0 = 0 } }

-- Spellings

-- the bytes that lie there; none where no text does
abbrev pub bytes_at : List ℕ → Span → List ℕ
bytes_at text span = if nat_le span.lo.0 span.hi.0 && nat_le span.hi.0 (length text) then slice_range text span.lo.0 span.hi.0 else []

-- `"` or `'` stands first
abbrev pub is_quoted : List ℕ → Bool
is_quoted [] = false
is_quoted (byte ∷ bytes) = (byte == 34) || (byte == 39)

-- there is a backslash, without which the value of a name or string is its spelling
abbrev pub is_escaped : List ℕ → Bool
is_escaped bytes = list_any (λ byte. byte == 92) bytes

-- 1 for a string, 2 where an escape is in it
abbrev pub spelling_by : Bool → Bool → ℕ
spelling_by quoted escaped = (if quoted then 1 else 0) + (if escaped then 2 else 0)

abbrev pub spelling : List ℕ → Span → ℕ
spelling text span = spelling_by (is_quoted (bytes_at text span)) (is_escaped (bytes_at text span))

abbrev pub spelling_of_specifier : List ℕ → Option Specifier → ℕ
spelling_of_specifier text (Some specifier) = spelling text specifier.span
spelling_of_specifier text None = 0

-- 2 where there is a local name, and how that is spelled
abbrev pub local_flags : List ℕ → Option Span → ℕ
local_flags text (Some span) = 2 + 16 * spelling text span
local_flags text None = 0

abbrev pub type_flag : Bool → ℕ
type_flag is_type = if is_type then 1 else 0

-- Rows

abbrev pub import_row : List ℕ → Import → ImportRow
import_row text i =
    record {
      lo = (named_at i).lo.0;
      hi = (named_at i).hi.0;
      statement_lo = i.statement.lo.0;
      statement_hi = i.statement.hi.0;
      paren = paren_of i.argument;
      attributes_lo = (span_or_nowhere i.attributes).lo.0;
      attributes_hi = (span_or_nowhere i.attributes).hi.0;
      form = form_number i.form;
      phase = phase_number i.phase;
      flags = type_flag i.is_type + 4 * spelling_of_specifier text i.specifier;
      first_export = i.first_export;
      exports = i.exports;
    }

abbrev pub export_row : List ℕ → Export → ExportRow
export_row text e =
    record {
      lo = e.name.lo.0;
      hi = e.name.hi.0;
      local_lo = (span_or_nowhere e.local).lo.0;
      local_hi = (span_or_nowhere e.local).hi.0;
      flags = type_flag e.is_type + 4 * spelling text e.name + local_flags text e.local;
    }

-- What is told of a text

-- `require` is looked for
abbrev pub is_commonjs : ℕ → Bool
is_commonjs bits = has 32 bits

-- the options that say how the text is read
abbrev pub reading_bits : ℕ → ℕ
reading_bits bits = if is_commonjs bits then bits - 32 else bits

abbrev pub module_options : Bool → AskedView → ModuleOptions
module_options commonjs asked = record { typescript = asked.options.typescript; commonjs = commonjs }

-- the tokens of a text
abbrev pub tokens_of : AskedView → List ModuleToken
tokens_of asked = module_tokens asked.rule (begin false asked) (tokens_by asked.rule (begin false asked))

-- the rows of a text, and what it is as a whole; its slashes are met or not
pub record ModuleView : Type 0 where
  pub met : Bool
  pub imports : List ImportRow
  pub exports : List ExportRow
  pub is_facade : Bool
  pub has_module_syntax : Bool

abbrev pub view_of : Bool → List Import → List Export → Bool → Bool → List ℕ → ModuleView
view_of met imports exports is_facade has_module_syntax text =
    record {
      met = met;
      imports = map (import_row text) imports;
      exports = map (export_row text) exports;
      is_facade = is_facade;
      has_module_syntax = has_module_syntax;
    }

abbrev pub module_view : Bool → ModuleOptions → List ModuleToken → List ℕ → ModuleView
module_view met options tokens text =
    view_of met (imports_of options tokens) (exports_of options tokens) (modules.is_facade options tokens) (modules.has_module_syntax options tokens) text

-- the same, of what was gathered
abbrev pub view_of_module : Bool → Module → List ℕ → ModuleView
view_of_module met m text = view_of met m.imports.items m.exports.items m.is_facade m.has_module_syntax text

abbrev pub module_told : Bool → Result AskedView Status → Result ModuleView Status
module_told commonjs (Err status) = Err status
module_told commonjs (Ok asked) =
    Ok (module_view (are_met asked.rule (steps_to_end_by asked.rule (begin false asked))) (module_options commonjs asked) (tokens_of asked) asked.bytes)

-- there is room for all where there is for the rows of imports and for those of exports
abbrev pub module_answer : Result ModuleView Status → List ImportRow → List ExportRow → ModuleAnswer
module_answer (Err status) imports exports = record { status = status; imports = 0; exports = 0; is_facade = false; has_module_syntax = false }
module_answer (Ok m) imports exports =
    record {
      status = status_of m.met (nat_le (length m.imports) (length imports) && nat_le (length m.exports) (length exports));
      imports = length m.imports;
      exports = length m.exports;
      is_facade = m.is_facade;
      has_module_syntax = m.has_module_syntax;
    }

abbrev pub imports_behind : Result ModuleView Status → List ImportRow → List ImportRow
imports_behind (Err status) room = room
imports_behind (Ok m) room = written m.imports room

abbrev pub exports_behind : Result ModuleView Status → List ExportRow → List ExportRow
exports_behind (Err status) room = room
exports_behind (Ok m) room = written m.exports room

-- the answer is given, and both rooms are filled
pub record TellsModule (told : Result ModuleView Status) (old_imports imports : List ImportRow) (old_exports exports : List ExportRow) (answer : ModuleAnswer) : Type 0 where
  pub answers : answer ≡ module_answer told old_imports old_exports
  pub imports_are : imports ≡ imports_behind told old_imports
  pub exports_are : exports ≡ exports_behind told old_exports
