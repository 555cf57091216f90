-- What is known of a text behind some of its tokens
use Rattle.std.specs.Prelude.{ℕ, ◌≡◌, ◌&&◌, ◌||◌, Bool, true, false, not, Option, Some, None, option_map, if◌then◌else◌}
use Rattle.ecma_span.specs.declared.place.Span.{Span}
use Rattle.ecma_state.specs.declared.kept.Kept.{Kept}
use Rattle.ecma_modules.specs.declared.calls.At.{At}
use Rattle.ecma_modules.specs.declared.calls.Call.{Call}
use Rattle.ecma_modules.specs.declared.known.Known.{Known}
use Rattle.ecma_modules.specs.declared.region.ModuleToken.{ModuleToken}
use Rattle.ecma_token.specs.declared.kind.TokenKind.{TokenKind}
use Rattle.ecma_module_table.specs.declared.part.Part.{Part}
use Rattle.ecma_module_table.specs.declared.part.Part.TheVariants as part
use Rattle.ecma_module_table.specs.declared.part.Word.TheVariants as word
use Rattle.ecma_module_table.specs.declared.rows.Export.{Export}
use Rattle.ecma_module_table.specs.declared.rows.Form.{Form}
use Rattle.ecma_module_table.specs.declared.rows.Form.TheVariants as form
use Rattle.ecma_module_table.specs.declared.rows.Import.{Import}
use Rattle.ecma_module_table.specs.declared.rows.ImportTold.TheVariants.{Row}
use Rattle.ecma_module_table.specs.declared.rows.ModuleOptions.{ModuleOptions}
use Rattle.ecma_module_table.specs.declared.rows.Phase.{Phase}
use Rattle.ecma_module_table.specs.declared.rows.Phase.TheVariants as phase
use Rattle.ecma_module_table.specs.declared.rows.Told.{Told}
use Rattle.ecma_module_table.specs.declared.stage.Change.{Change}
use Rattle.ecma_module_table.specs.declared.stage.Change.TheVariants as change
use Rattle.ecma_module_table.specs.declared.stage.Move.{Move}
use Rattle.ecma_module_table.specs.declared.stage.Move.TheVariants.{To, Again}
use Rattle.ecma_module_table.specs.declared.stage.Seen.{Seen}
use Rattle.ecma_module_table.specs.declared.stage.Stage.{Stage}
use Rattle.ecma_module_table.specs.declared.stage.Stage.TheVariants as stage
use Rattle.ecma_modules.specs.declared.statement.Statement.{Statement}
use Rattle.ecma_module_table.specs.declared.variables.VariableSeen.{VariableSeen}
use Rattle.ecma_module_table.specs.declared.variables.Variables.{Variables}
use Rattle.ecma_modules.specs.Calls as calls
use Rattle.ecma_modules.specs.Calls.{between}
use Rattle.ecma_module_table.specs.Parts.{ends_operand, more, next_depth}
use Rattle.ecma_modules.specs.Regions.{part_in}
use Rattle.ecma_modules.specs.Statements.{export_of, export_type_of, import_of, import_with, meta_of, specified, statement_begun, string_end}
use Rattle.ecma_module_table.specs.Table.{begun, row}
use Rattle.ecma_module_table.specs.Variables as variables

-- the token before, if there is one, ends an operand
abbrev pub is_behind_operand : Option TokenKind → Bool
is_behind_operand None = false
is_behind_operand (Some k) = ends_operand k

-- before the first token of a text
abbrev pub nowhere : Span
nowhere = record { lo = record { 0 = 0 }; hi = record { 0 = 0 } }

abbrev pub nothing_known : ModuleOptions → Known
nothing_known options =
    record {
      stage = stage.Nothing;
      statement = statement_begun nowhere false 0;
      variables = variables.off;
      depth = 0;
      tokens = 0;
      imports = 0;
      exports = 0;
      last = nowhere;
      before = None;
      is_facade = true;
      has_module_syntax = false;
      options = options;
    }

-- a token, as it is seen behind those before it
abbrev pub at_of : Known → ModuleToken → At
at_of k token = record { part = part_in token k.before; index = k.tokens; span = token.kept.span; depth = k.depth }

-- the end of the text, as if a semicolon on a line of its own came behind the last token
abbrev pub end_of : Known → At
end_of k = record { part = part.Semi; index = k.tokens; span = between k.last.hi k.last.hi; depth = k.depth }

-- the last token, as one of an argument that the text does not end
abbrev pub last_of : Known → At
last_of k = record { part = part.Other; index = k.tokens; span = k.last; depth = k.depth }

-- Changes

-- a change is of something other than imports and exports that declare nothing
abbrev pub is_other : Change → Bool
is_other change.Other = true
is_other change.BeginOther = true
is_other change.Meta = true
is_other change.Call = true
is_other change.TellDeclared = true
is_other change.TellType = true
is_other change.TellDefault = true
is_other change.TellDefaultName = true
is_other change.TellDefaultType = true
is_other change.Variables = true
is_other c = false

-- a change is of what only a module has
abbrev pub names_in_module : Form → Bool
names_in_module form.Static = true
names_in_module form.Reexport = true
names_in_module form.Equals = true
names_in_module f = false

abbrev pub is_module_syntax : Change → Bool
is_module_syntax change.BeginExport = true
is_module_syntax change.Meta = true
is_module_syntax (change.Specify f) = names_in_module f
is_module_syntax c = false

-- a change makes one row more
abbrev pub adds_import : Change → Bool
adds_import change.Complete = true
adds_import change.CompleteAttributes = true
adds_import change.CompleteHere = true
adds_import change.CompleteText = true
adds_import change.Meta = true
adds_import change.Call = true
adds_import c = false

abbrev pub adds_export : Change → Bool
adds_export change.TellName = true
adds_export change.TellAs = true
adds_export change.TellLast = true
adds_export change.TellAlias = true
adds_export change.TellAliasAs = true
adds_export change.TellAlone = true
adds_export change.TellDeclared = true
adds_export change.TellType = true
adds_export change.TellDefault = true
adds_export change.TellDefaultName = true
adds_export change.TellDefaultType = true
adds_export c = false

abbrev pub if_more : Bool → ℕ → ℕ
if_more adds count = if adds then more count else count

-- the statement behind a change by a token
abbrev pub statement_behind : Change → At → ℕ → Statement → Statement
statement_behind change.Begin at exports s = statement_begun at.span false exports
statement_behind change.BeginType at exports s = statement_begun at.span true exports
statement_behind change.BeginExport at exports s = statement_begun at.span false exports
statement_behind change.BeginOther at exports s = statement_begun at.span false exports
statement_behind change.TypeOnly at exports s = record { lo = s.lo; form = s.form; phase = s.phase; is_type = true; specifier = s.specifier; attributes = s.attributes; name = s.name; is_type_name = s.is_type_name; alias = s.alias; exports = s.exports }
statement_behind (change.Phase phase) at exports s = record { lo = s.lo; form = s.form; phase = phase; is_type = s.is_type; specifier = s.specifier; attributes = s.attributes; name = s.name; is_type_name = s.is_type_name; alias = s.alias; exports = s.exports }
statement_behind (change.Specify form) at exports s = specified form at s
statement_behind change.CompleteText at exports s = specified form.Ambient at s
statement_behind change.Attributes at exports s = record { lo = s.lo; form = s.form; phase = s.phase; is_type = s.is_type; specifier = s.specifier; attributes = at.span.lo; name = s.name; is_type_name = s.is_type_name; alias = s.alias; exports = s.exports }
statement_behind change.Name at exports s = record { lo = s.lo; form = s.form; phase = s.phase; is_type = s.is_type; specifier = s.specifier; attributes = s.attributes; name = at.span; is_type_name = false; alias = s.alias; exports = s.exports }
statement_behind change.TypeName at exports s = record { lo = s.lo; form = s.form; phase = s.phase; is_type = s.is_type; specifier = s.specifier; attributes = s.attributes; name = at.span; is_type_name = true; alias = s.alias; exports = s.exports }
statement_behind change.Alias at exports s = record { lo = s.lo; form = s.form; phase = s.phase; is_type = s.is_type; specifier = s.specifier; attributes = s.attributes; name = s.name; is_type_name = s.is_type_name; alias = at.span; exports = s.exports }
statement_behind c at exports s = s

abbrev pub variables_behind : Change → Variables → Variables
variables_behind change.Variables v = variables.begun
variables_behind change.BeginExport v = variables.off
variables_behind c v = v

-- what is known behind a change, at a stage
abbrev pub changed : Stage → Change → At → Known → Known
changed s c at k =
    record {
      stage = s;
      statement = statement_behind c at k.exports k.statement;
      variables = variables_behind c k.variables;
      depth = k.depth;
      tokens = k.tokens;
      imports = k.imports;
      exports = k.exports;
      last = k.last;
      before = k.before;
      is_facade = k.is_facade && not (is_other c);
      has_module_syntax = k.has_module_syntax || is_module_syntax c;
      options = k.options;
    }

-- the import that a change tells
abbrev pub import_told : Change → At → ℕ → Statement → Option Import
import_told change.Complete at exports s = Some (import_of (string_end s) exports s)
import_told change.CompleteAttributes at exports s = Some (import_with at.span.hi exports s)
import_told change.CompleteHere at exports s = Some (import_of at.span.hi exports s)
import_told change.CompleteText at exports s = Some (import_of at.span.hi exports (specified form.Ambient at s))
import_told change.Meta at exports s = Some (meta_of at.span.hi s)
import_told c at exports s = None

-- the export that a change tells, where the last token lies there
abbrev pub export_told : Change → Span → Span → Statement → Option Export
export_told change.TellName here last s = Some (export_of s.name (Some s.name) s)
export_told change.TellAs here last s = Some (export_of here (Some s.name) s)
export_told change.TellLast here last s = Some (export_of last (Some s.name) s)
export_told change.TellAlias here last s = Some (export_type_of s.alias s.alias)
export_told change.TellAliasAs here last s = Some (export_type_of here s.alias)
export_told change.TellAlone here last s = Some (export_of here None s)
export_told change.TellDeclared here last s = Some (export_of here (Some here) s)
export_told change.TellType here last s = Some (export_type_of here here)
export_told change.TellDefault here last s = Some (export_of s.name None s)
export_told change.TellDefaultName here last s = Some (export_of s.name (Some here) s)
export_told change.TellDefaultType here last s = Some (export_type_of s.name here)
export_told c here last s = None

-- Tokens

abbrev pub seen_by : Known → Bool → Seen
seen_by k had_line_break = record { depth = k.depth; had_line_break = had_line_break; commonjs = k.options.commonjs }

-- behind a token that may begin something
abbrev pub begun_with : Seen → At → Known → Known
begun_with seen at k = changed (begun seen at.part).0 (begun seen at.part).1 at k

-- what a move leaves, and its change
abbrev pub moved_by : Move → Seen → At → Known → Known × Change
moved_by (To s c) seen at k = (changed s c at k, c)
moved_by (Again c) seen at k = (begun_with seen at (changed stage.Nothing c at k), c)

abbrev pub moved : Bool → At → Known → Known × Change
moved had_line_break at k = moved_by (row k.stage (seen_by k had_line_break) at.part) (seen_by k had_line_break) at k

-- the variables of an exported declaration, behind a token
abbrev pub variable_seen : Known → Bool → VariableSeen
variable_seen k had_line_break = record { depth = k.depth; had_line_break = had_line_break; is_behind_operand = is_behind_operand k.before; typescript = k.options.typescript }

abbrev pub with_variables : Variables → ℕ → Known → Known
with_variables v exports k =
    record {
      stage = k.stage;
      statement = k.statement;
      variables = v;
      depth = k.depth;
      tokens = k.tokens;
      imports = k.imports;
      exports = exports;
      last = k.last;
      before = k.before;
      is_facade = k.is_facade;
      has_module_syntax = k.has_module_syntax;
      options = k.options;
    }

abbrev pub variable_export : Span → Export
variable_export name = record { name = name; local = Some name; is_type = false }

abbrev pub behind_told : Variables → Option Span → Known → Known × Option Export
behind_told v (Some name) k = (with_variables v (more k.exports) k, Some (variable_export name))
behind_told v None k = (with_variables v k.exports k, None)

abbrev pub variables_stepped : Bool → At → Known → Variables × Option Span
variables_stepped had_line_break at k = variables.stepped (variable_seen k had_line_break) at.part at.span k.variables

abbrev pub behind_variables : Bool → At → Known → Known × Option Export
behind_variables had_line_break at k = behind_told (variables_stepped had_line_break at k).0 (variables_stepped had_line_break at k).1 k

-- with the rows counted that a change tells, but for a variable's
abbrev pub counted : Change → Known → Known
counted c k =
    record {
      stage = k.stage;
      statement = k.statement;
      variables = k.variables;
      depth = k.depth;
      tokens = k.tokens;
      imports = if_more (adds_import c) k.imports;
      exports = if_more (adds_export c) k.exports;
      last = k.last;
      before = k.before;
      is_facade = k.is_facade;
      has_module_syntax = k.has_module_syntax;
      options = k.options;
    }

-- what is told where a change follows what is known, which follows a variable
abbrev pub first_of : Option Export → Option Export → Option Export
first_of None second = second
first_of (Some export) second = Some export

abbrev pub told_by : Change → At → Option Export → Known → Told
told_by c at variable k = record { import = option_map Row (import_told c at k.exports k.statement); export = first_of (export_told c at.span k.last k.statement) variable }

-- behind a token, but for what it is to the next one; and what it tells, but for calls
abbrev pub stepped_behind : Known × Change → At → Option Export → Known → Known × Told
stepped_behind m at variable k = (counted m.1 m.0, told_by m.1 at variable k)

abbrev pub stepped_from : Known × Option Export → Bool → At → Known × Told
stepped_from v had_line_break at = stepped_behind (moved had_line_break at v.0) at v.1 v.0

unfoldable pub stepped : Bool → At → Known → Known × Told
stepped had_line_break at k = stepped_from (behind_variables had_line_break at k) had_line_break at

-- a call begins with a token
abbrev pub is_paren : Part → Bool
is_paren part.Paren = true
is_paren p = false

abbrev pub begins_call : Stage → Part → Bool
begins_call stage.Import p = is_paren p
begins_call stage.Inside p = is_paren p
begins_call stage.PhaseCall p = is_paren p
begins_call s p = false

abbrev pub opens : Known → At → Bool
opens k at = begins_call k.stage at.part

-- Tokens that tell nothing

-- the stage behind a token that begins nothing that is looked for, where nothing is read
abbrev pub quiet_stage : Stage → Part → Option Stage
quiet_stage stage.Nothing (part.Word word.Import) = None
quiet_stage stage.Nothing (part.Word word.ImportType) = None
quiet_stage stage.Nothing (part.Word word.Export) = None
quiet_stage stage.Nothing (part.Word word.Declare) = None
quiet_stage stage.Nothing (part.Word word.Require) = None
quiet_stage stage.Nothing part.Member = Some stage.Member
quiet_stage stage.Nothing p = Some stage.Nothing
quiet_stage stage.Member part.Member = None
quiet_stage stage.Member p = Some stage.Nothing
quiet_stage s p = None

abbrev pub with_stage : Stage → Known → Known
with_stage s k =
    record {
      stage = s;
      statement = k.statement;
      variables = k.variables;
      depth = k.depth;
      tokens = k.tokens;
      imports = k.imports;
      exports = k.exports;
      last = k.last;
      before = k.before;
      is_facade = k.is_facade;
      has_module_syntax = k.has_module_syntax;
      options = k.options;
    }

abbrev pub nothing_told : Told
nothing_told = record { import = None; export = None }

-- a token of this kind leads to a stage, and neither changes nor tells anything else, and begins no call
abbrev pub Passes : Stage → Part → Known → Type 0
Passes s p k = (had_line_break : Bool) (at : At) → at.part ≡ p → (stepped had_line_break at k ≡ (with_stage s k, nothing_told)) × (opens k at ≡ false)

-- with what a token is to the next one
abbrev pub behind : Kept → At → Known → Known
behind token at k =
    record {
      stage = k.stage;
      statement = k.statement;
      variables = k.variables;
      depth = next_depth at.part k.depth;
      tokens = more k.tokens;
      imports = k.imports;
      exports = k.exports;
      last = token.span;
      before = Some token.kind;
      is_facade = k.is_facade;
      has_module_syntax = k.has_module_syntax;
      options = k.options;
    }

-- the call that begins with a parenthesis
abbrev pub call_of : Known → At → Call
call_of k at = calls.begun k.imports k.statement.lo k.statement.phase k.statement.is_type k.exports at
