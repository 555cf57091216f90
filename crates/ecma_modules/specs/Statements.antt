-- What is known of an import or export that is read
use Rattle.std.specs.Prelude.{ℕ, ◌-◌, ◌||◌, Bool, true, false, Option, Some, None}
use Rattle.ecma_span.specs.declared.place.BytePos.{BytePos}
use Rattle.ecma_span.specs.declared.place.Span.{Span}
use Rattle.ecma_modules.specs.declared.calls.At.{At}
use Rattle.ecma_module_table.specs.declared.rows.Export.{Export}
use Rattle.ecma_module_table.specs.declared.rows.Form.{Form}
use Rattle.ecma_module_table.specs.declared.rows.Form.TheVariants as form
use Rattle.ecma_module_table.specs.declared.rows.Import.{Import}
use Rattle.ecma_module_table.specs.declared.rows.Phase.TheVariants as phase
use Rattle.ecma_module_table.specs.declared.rows.Specifier.{Specifier}
use Rattle.ecma_modules.specs.declared.statement.Statement.{Statement}
use Rattle.ecma_modules.specs.Calls.{between}

-- one that begins with the token there, of types alone or not
abbrev pub statement_begun : Span → Bool → ℕ → Statement
statement_begun here is_type exports =
    record {
      lo = here.lo;
      form = form.Static;
      phase = phase.Evaluation;
      is_type = is_type;
      specifier = None;
      attributes = here.lo;
      name = here;
      is_type_name = false;
      alias = here;
      exports = exports;
    }

-- with the string that stands here
abbrev pub specified : Form → At → Statement → Statement
specified form at s =
    record {
      lo = s.lo;
      form = form;
      phase = s.phase;
      is_type = s.is_type;
      specifier = Some (record { index = at.index; span = at.span });
      attributes = s.attributes;
      name = s.name;
      is_type_name = s.is_type_name;
      alias = s.alias;
      exports = s.exports;
    }

-- its row, up to a place
abbrev pub row : Form → BytePos → ℕ → Option Span → Statement → Import
row form hi exports attributes s =
    record {
      form = form;
      phase = s.phase;
      is_type = s.is_type;
      statement = between s.lo hi;
      specifier = s.specifier;
      argument = None;
      attributes = attributes;
      first_export = s.exports;
      exports = exports;
    }

-- how many rows of exports belong to it, by how many there are
abbrev pub own_exports : Form → ℕ → ℕ → ℕ
own_exports form.Reexport exports before = exports - before
own_exports f exports before = 0

-- the row of an import up to a place
abbrev pub import_of : BytePos → ℕ → Statement → Import
import_of hi exports s = row s.form hi (own_exports s.form exports s.exports) None s

-- the same, with attributes up to the place
abbrev pub import_with : BytePos → ℕ → Statement → Import
import_with hi exports s = row s.form hi (own_exports s.form exports s.exports) (Some (between s.attributes hi)) s

-- the row of `import.meta`
abbrev pub meta_of : BytePos → Statement → Import
meta_of hi s = row form.Meta hi 0 None s

-- where its string ends
abbrev pub end_of_string : Option Specifier → BytePos → BytePos
end_of_string (Some specifier) lo = specifier.span.hi
end_of_string None lo = lo

abbrev pub string_end : Statement → BytePos
string_end s = end_of_string s.specifier s.lo

-- the row of a name that is exported, with its name in this module
abbrev pub export_of : Span → Option Span → Statement → Export
export_of name local s = record { name = name; local = local; is_type = s.is_type || s.is_type_name }

-- the same, of a type
abbrev pub export_type_of : Span → Span → Export
export_type_of name local = record { name = name; local = Some local; is_type = true }
