-- A machine that takes the tokens of a text one after another, and what it tells
use Rattle.std.specs.Prelude.{◌∷◌, true, List, [], Option, Some, None, if◌then◌else◌}
use Rattle.ecma_modules.specs.declared.calls.At.{At}
use Rattle.ecma_modules.specs.declared.calls.Call.{Call}
use Rattle.ecma_modules.specs.declared.known.Known.{Known}
use Rattle.ecma_modules.specs.declared.region.ModuleToken.{ModuleToken}
use Rattle.ecma_module_table.specs.declared.rows.ImportTold.{ImportTold}
use Rattle.ecma_module_table.specs.declared.rows.ImportTold.TheVariants.{Begun}
use Rattle.ecma_module_table.specs.declared.rows.ModuleOptions.{ModuleOptions}
use Rattle.ecma_module_table.specs.declared.rows.Told.{Told}
use Rattle.ecma_modules.specs.Calls as calls
use Rattle.ecma_modules.specs.Calls.{calls_behind, calls_ended, calls_told, row}
use Rattle.ecma_modules.specs.Known.{at_of, behind, call_of, end_of, last_of, nothing_known, opens, stepped}

-- what is known, and the calls that are open, the innermost first
pub record ScanView : Type 0 where
  pub known : Known
  pub calls : List Call

abbrev pub scan : Known → List Call → ScanView
scan known calls = record { known = known; calls = calls }

-- before the first token
abbrev pub first_scan : ModuleOptions → ScanView
first_scan options = scan (nothing_known options) []

-- the calls behind a token, and what is told of them
abbrev pub calls_after : Known → At → List Call → List Call
calls_after k at calls = if opens k at then call_of k at ∷ calls else calls_behind at calls

abbrev pub told_of_calls : Known → At → List Call → Option ImportTold
told_of_calls k at calls = if opens k at then Some (Begun (row at.span.hi (call_of k at))) else calls_told at calls

-- behind a token
abbrev pub scan_at : ScanView → ModuleToken → At → ScanView
scan_at s token at = scan (behind token.kept at (stepped token.kept.flag at s.known).0) (calls_after s.known at s.calls)

abbrev pub scanned : ScanView → ModuleToken → ScanView
scanned s token = scan_at s token (at_of s.known token)

-- what a token tells
abbrev pub either : Option ImportTold → Option ImportTold → Option ImportTold
either None second = second
either (Some told) second = Some told

abbrev pub told_at : ScanView → ModuleToken → At → Told
told_at s token at =
    record {
      import = either (told_of_calls s.known at s.calls) (stepped token.kept.flag at s.known).1.import;
      export = (stepped token.kept.flag at s.known).1.export;
    }

abbrev pub told : ScanView → ModuleToken → Told
told s token = told_at s token (at_of s.known token)

-- behind the end of the text, and what it tells
abbrev pub ended_scan : ScanView → ScanView
ended_scan s = scan (stepped true (end_of s.known) s.known).0 s.calls

abbrev pub told_at_end : ScanView → Told
told_at_end s = (stepped true (end_of s.known) s.known).1

-- the innermost call ends with the text
abbrev pub call_ended : ScanView → ScanView
call_ended s = scan s.known (calls_ended (last_of s.known) s.calls)

abbrev pub told_of_last : ScanView → Option ImportTold
told_of_last s = calls.told_at_end (last_of s.known) s.calls
