-- What the tokens of a text import and export
use Rattle.std.specs.Prelude.{ℕ, zero, suc, ◌++◌, ◌∷◌, Bool, List, [], Option, Some, None, fold, length, nat_lt, slice_set, if◌then◌else◌}
use Rattle.ecma_modules.specs.declared.region.ModuleToken.{ModuleToken}
use Rattle.ecma_module_table.specs.declared.rows.Export.{Export}
use Rattle.ecma_module_table.specs.declared.rows.Import.{Import}
use Rattle.ecma_module_table.specs.declared.rows.ImportTold.{ImportTold}
use Rattle.ecma_module_table.specs.declared.rows.ImportTold.TheVariants.{Begun, Ended, Row}
use Rattle.ecma_module_table.specs.declared.rows.ModuleOptions.{ModuleOptions}
use Rattle.ecma_modules.specs.Scans.{ScanView, call_ended, ended_scan, first_scan, scanned, told, told_at_end, told_of_last}

-- rows behind what is told: one more, or the one in its place
abbrev pub placed : ℕ → Import → List Import → List Import
placed number row rows = if nat_lt number (length rows) then slice_set rows number row else rows

abbrev pub import_added : ImportTold → List Import → List Import
import_added (Row row) rows = rows ++ row ∷ []
import_added (Begun row) rows = rows ++ row ∷ []
import_added (Ended number row) rows = placed number row rows

abbrev pub imports_behind : Option ImportTold → List Import → List Import
imports_behind None rows = rows
imports_behind (Some told) rows = import_added told rows

abbrev pub exports_behind : Option Export → List Export → List Export
exports_behind None rows = rows
exports_behind (Some row) rows = rows ++ row ∷ []

-- the machine behind tokens
abbrev pub scan_over : ScanView → List ModuleToken → ScanView
scan_over s tokens = fold scanned s tokens

-- rows, and those that tokens add
abbrev pub imports_over : ScanView → List Import → List ModuleToken → List Import
imports_over s rows [] = rows
imports_over s rows (k ∷ ks) = imports_over (scanned s k) (imports_behind (told s k).import rows) ks

abbrev pub exports_over : ScanView → List Export → List ModuleToken → List Export
exports_over s rows [] = rows
exports_over s rows (k ∷ ks) = exports_over (scanned s k) (exports_behind (told s k).export rows) ks

-- rows behind so many calls that the text does not close
abbrev pub imports_closed : ℕ → ScanView → List Import → List Import
imports_closed zero s rows = rows
imports_closed (suc n) s rows = imports_closed n (call_ended s) (imports_behind (told_of_last s) rows)

-- all, by what the machine tells behind the last token
abbrev pub imports_at_end : ScanView → List Import → List Import
imports_at_end s rows = imports_closed (length s.calls) (ended_scan s) (imports_behind (told_at_end s).import rows)

abbrev pub exports_at_end : ScanView → List Export → List Export
exports_at_end s rows = exports_behind (told_at_end s).export rows

abbrev pub scan_of : ModuleOptions → List ModuleToken → ScanView
scan_of options tokens = scan_over (first_scan options) tokens

-- what is gathered of tokens
pub record GatheringView : Type 0 where
  pub scan : ScanView
  pub imports : List Import
  pub exports : List Export

abbrev pub gathering : ScanView → List Import → List Export → GatheringView
gathering s imports exports = record { scan = s; imports = imports; exports = exports }

abbrev pub gathered_with : GatheringView → ModuleToken → GatheringView
gathered_with g k = gathering (scanned g.scan k) (imports_behind (told g.scan k).import g.imports) (exports_behind (told g.scan k).export g.exports)

abbrev pub gathered : ModuleOptions → List ModuleToken → GatheringView
gathered options tokens = gathering (scan_of options tokens) (imports_over (first_scan options) [] tokens) (exports_over (first_scan options) [] tokens)

abbrev pub imports_of : ModuleOptions → List ModuleToken → List Import
imports_of options tokens = imports_at_end (scan_of options tokens) (imports_over (first_scan options) [] tokens)

abbrev pub exports_of : ModuleOptions → List ModuleToken → List Export
exports_of options tokens = exports_at_end (scan_of options tokens) (exports_over (first_scan options) [] tokens)

abbrev pub is_facade : ModuleOptions → List ModuleToken → Bool
is_facade options tokens = (ended_scan (scan_of options tokens)).known.is_facade

abbrev pub has_module_syntax : ModuleOptions → List ModuleToken → Bool
has_module_syntax options tokens = (ended_scan (scan_of options tokens)).known.has_module_syntax
