-- Rows of what is imported and exported.
use Rattle.std.specs.Prelude.{ℕ, List, Bool, true, false, Option, Some, None, codes, flat_map}
use Rattle.ecma_place.specs.declared.place.Span.{Span}
use Rattle.ecma_module_table.specs.Rows.{named_at}
use Rattle.ecma_module_table.specs.declared.rows.Export.{Export}
use Rattle.ecma_module_table.specs.declared.rows.Form.{Form}
use Rattle.ecma_module_table.specs.declared.rows.Form.TheVariants as form
use Rattle.ecma_module_table.specs.declared.rows.Import.{Import}
use Rattle.ecma_module_table.specs.declared.rows.ModuleOptions.{ModuleOptions}
use Rattle.ecma_module_table.specs.declared.rows.Phase.{Phase}
use Rattle.ecma_module_table.specs.declared.rows.Phase.TheVariants as phase
use Rattle.ecma_module_reader.specs.Readings.{module_tokens}
use Rattle.ecma_modules.specs.declared.region.ModuleToken.{ModuleToken}
use Rattle.ecma_print.specs.Rows.{ImportView, exported, imported}
use Rattle.ecma_reader.specs.Readers.{tokens_by}
use Rattle.ecma_report.specs.Rows.{Look, part_at, row_of}
use Rattle.ecma_report.specs.Slashes.{rule_at}
use Rattle.ecma_faces.specs.Tokens.{begun}
use Rattle.ecma_command.specs.declared.words.Asked.{Asked}
use Rattle.ecma_command.specs.declared.words.Named.{Named}

-- what is looked for in a text, as it is asked for
abbrev pub module_options : Asked → ModuleOptions
module_options asked = record { typescript = asked.options.typescript; commonjs = asked.commonjs }

-- the tokens of a text, read as it is asked for
abbrev pub tokens_of : Named → Look → List ℕ → List ModuleToken
tokens_of named l text = module_tokens (rule_at named) (begun l.asked text) (tokens_by (rule_at named) (begun l.asked text))

-- Imports

abbrev pub form_name : Form → List ℕ
form_name form.Static = codes "static"
form_name form.Reexport = codes "reexport"
form_name form.Call = codes "dynamic"
form_name form.Meta = codes "meta"
form_name form.Equals = codes "equals"
form_name form.Ambient = codes "ambient"
form_name form.Require = codes "require"

-- the phase up to which a module is brought, where it is not evaluated at once
abbrev pub phase_name : Phase → Option (List ℕ)
phase_name phase.Evaluation = None
phase_name phase.Defer = Some (codes "defer")
phase_name phase.Source = Some (codes "source")

abbrev pub told_of : Import → ImportView
told_of i = record { phase = phase_name i.phase; is_type = i.is_type; statement = i.statement; attributes = i.attributes }

abbrev pub import_row : Look → List ℕ → List ℕ → Import → List ℕ
import_row l file text i = row_of l file text (form_name i.form) (named_at i) (imported (told_of i)) (part_at text (named_at i))

abbrev pub import_rows : Look → List ℕ → List ℕ → List Import → List ℕ
import_rows l file text imports = flat_map (import_row l file text) imports

-- Exports

-- the name that it has in the module, where it has one
abbrev pub local_of : List ℕ → Option Span → Option (List ℕ)
local_of text (Some span) = Some (part_at text span)
local_of text None = None

abbrev pub export_kind : Bool → List ℕ
export_kind true = codes "type"
export_kind false = codes "export"

abbrev pub export_row : Look → List ℕ → List ℕ → Export → List ℕ
export_row l file text e = row_of l file text (export_kind e.is_type) e.name (exported (local_of text e.local) e.is_type) (part_at text e.name)

abbrev pub export_rows : Look → List ℕ → List ℕ → List Export → List ℕ
export_rows l file text exports = flat_map (export_row l file text) exports
