-- What the machine remembers and tells lies within the tokens that it took.
use Rattle.std.proofs.Common.{◌≤◌, ◌++◌, ◌∷◌, ℕ, Bool, true, false, List, [], Option, Some, None, if◌then◌else◌, option_map, arith}
use Rattle.ecma_span.specs.declared.place.Span.{Span}
use Rattle.ecma_state.specs.declared.kept.Kept.{Kept}
use Rattle.ecma_modules.specs.declared.region.ModuleToken.{ModuleToken}
use Rattle.ecma_modules.specs.declared.calls.At.{At}
use Rattle.ecma_modules.specs.declared.calls.Call.{Call}
use Rattle.ecma_modules.specs.declared.known.Known.{Known}
use Rattle.ecma_module_table.specs.declared.rows.Export.{Export}
use Rattle.ecma_module_table.specs.declared.rows.Import.{Import}
use Rattle.ecma_module_table.specs.declared.rows.ImportTold.{ImportTold}
use Rattle.ecma_module_table.specs.declared.rows.ImportTold.TheVariants.{Begun, Row}
use Rattle.ecma_module_table.specs.declared.stage.Change.{Change}
use Rattle.ecma_module_table.specs.declared.stage.Change.TheVariants as change
use Rattle.ecma_module_table.specs.declared.stage.Move.{Move}
use Rattle.ecma_module_table.specs.declared.stage.Move.TheVariants.{To, Again}
use Rattle.ecma_module_table.specs.declared.stage.Seen.{Seen}
use Rattle.ecma_module_table.specs.declared.stage.Stage.{Stage}
use Rattle.ecma_module_table.specs.declared.stage.Stage.TheVariants as stage
use Rattle.ecma_module_table.specs.declared.variables.VariableChange.{VariableChange}
use Rattle.ecma_module_table.specs.declared.variables.VariableChange.TheVariants as variable
use Rattle.ecma_module_table.specs.declared.variables.VariableSeen.{VariableSeen}
use Rattle.ecma_module_table.specs.declared.variables.Variables.{Variables}
use Rattle.ecma_modules.specs.Calls as a_call
use Rattle.ecma_modules.specs.Calls.{calls_behind, calls_told, ends_with, passed}
use Rattle.ecma_modules.specs.Known.{at_of, behind, behind_told, call_of, changed, counted, export_told, first_of, import_told, moved, moved_by, opens, seen_by, stepped, stepped_behind, told_by, variable_seen, variables_behind}
use Rattle.ecma_modules.specs.Modules.{scan_over}
use Rattle.ecma_modules.specs.Places.{ExportLies, ImportToldLies, IsPlaced, Lies, RowsLieInTokens, SpanLies, ToldLies}
use Rattle.ecma_modules.specs.Scans.{ScanView, either, first_scan, scanned, told, told_of_calls}
use Rattle.ecma_module_table.specs.Table.{begun, row}
use Rattle.ecma_module_table.specs.Variables as variables
use Rattle.ecma_modules.proofs.PlaceLemmas.{CallLies, CallsLie, ImportOptionLies, StatementLies, call-further, call-goes-on, call-row, export-lies, import-lies, lies-further, statement-changes, statement-further}

-- what is known of a text behind tokens up to a place, where a statement began up to another
pub record KnownLies (b q : ℕ) (k : Known) : Type 0 where
  pub statement : StatementLies b q k.statement
  pub variable : Lies 0 q k.variables.name
  pub last : Lies 0 q k.last

known-further : (b q c r : ℕ) (k : Known) → b ≤ c → q ≤ r → KnownLies b q k → KnownLies c r k
known-further b q c r k bc qr lies =
    record {
      statement = statement-further b q c r k.statement bc qr lies.statement;
      variable = lies-further 0 q r k.variables.name qr lies.variable;
      last = lies-further 0 q r k.last qr lies.last;
    }

-- Changes

variable-changes : (c : Change) (q : ℕ) (v : Variables) → Lies 0 q v.name → Lies 0 q (variables_behind c v).name
variable-changes change.Variables q v lies = (omega arith, omega arith, omega arith)
variable-changes change.BeginExport q v lies = (omega arith, omega arith, omega arith)
variable-changes c q v lies = lies

known-changes : (s : Stage) (c : Change) (at : At) (k : Known) → at.span.lo.0 ≤ at.span.hi.0 → KnownLies at.span.lo.0 at.span.hi.0 k → KnownLies at.span.lo.0 at.span.hi.0 (changed s c at k)
known-changes s c at k le lies =
    record {
      statement = statement-changes c at k.exports k.statement le lies.statement;
      variable = variable-changes c at.span.hi.0 k.variables lies.variable;
      last = lies.last;
    }

moves : (m : Move) (seen : Seen) (at : At) (k : Known) → at.span.lo.0 ≤ at.span.hi.0 → KnownLies at.span.lo.0 at.span.hi.0 k → KnownLies at.span.lo.0 at.span.hi.0 (moved_by m seen at k).0
moves (To s c) seen at k le lies = known-changes s c at k le lies
moves (Again c) seen at k le lies = known-changes (begun seen at.part).0 (begun seen at.part).1 at (changed stage.Nothing c at k) le (known-changes stage.Nothing c at k le lies)

-- Variables

name-changes : (c : VariableChange) (q : ℕ) (name here : Span) → Lies 0 q name → Lies 0 q here → Lies 0 q (variables.name_behind c name here)
name-changes variable.Name q name here lies at = at
name-changes c q name here lies at = lies

name-told : (c : VariableChange) (q : ℕ) (name here : Span) → Lies 0 q name → Lies 0 q here → SpanLies 0 q (variables.told c name here)
name-told variable.Tell q name here lies at = lies
name-told variable.TellClose q name here lies at = lies
name-told variable.TellEnter q name here lies at = lies
name-told variable.TellHere q name here lies at = at
name-told c q name here lies at = tt

behind-name : (b q : ℕ) (v : Variables) (name : Option Span) (k : Known) → KnownLies b q k → Lies 0 q v.name → SpanLies 0 q name
    → KnownLies b q (behind_told v name k).0 × ExportLies q (behind_told v name k).1
behind-name b q v (Some name) k lies here at = (record { statement = lies.statement; variable = here; last = lies.last }, (at, at))
behind-name b q v None k lies here at = (record { statement = lies.statement; variable = here; last = lies.last }, tt)

variables-step : (r : variables.Row) (seen : VariableSeen) (b : ℕ) (at : At) (k : Known) → at.span.lo.0 ≤ at.span.hi.0 → KnownLies b at.span.hi.0 k
    → KnownLies b at.span.hi.0 (behind_told (variables.stepped_by r seen at.span k.variables).0 (variables.stepped_by r seen at.span k.variables).1 k).0
    × ExportLies at.span.hi.0 (behind_told (variables.stepped_by r seen at.span k.variables).0 (variables.stepped_by r seen at.span k.variables).1 k).1
variables-step r seen b at k le lies =
    let here : Lies 0 at.span.hi.0 at.span = (omega arith, le, omega arith) in
    behind-name b at.span.hi.0 (variables.stepped_by r seen at.span k.variables).0 (variables.stepped_by r seen at.span k.variables).1 k lies
    (name-changes r.1 at.span.hi.0 k.variables.name at.span lies.variable here) (name-told r.1 at.span.hi.0 k.variables.name at.span lies.variable here)

-- A token

rows-told : (q : ℕ) (row : Option Import) → ImportOptionLies q row → ImportToldLies q (option_map Row row)
rows-told q None lies = tt
rows-told q (Some row) lies = lies

first-lies : (q : ℕ) (one other : Option Export) → ExportLies q one → ExportLies q other → ExportLies q (first_of one other)
first-lies q None other one-lies other-lies = other-lies
first-lies q (Some one) other one-lies other-lies = one-lies

told-lies : (c : Change) (at : At) (variable : Option Export) (k : Known) → at.span.lo.0 ≤ at.span.hi.0 → KnownLies at.span.lo.0 at.span.hi.0 k → ExportLies at.span.hi.0 variable → ToldLies at.span.hi.0 (told_by c at variable k)
told-lies c at variable k le lies variable-lies = (
  rows-told at.span.hi.0 (import_told c at k.exports k.statement) (import-lies c at k.exports k.statement le lies.statement),
  first-lies at.span.hi.0 (export_told c at.span k.last k.statement) variable
      (export-lies c at.span k.last at.span.hi.0 k.statement at.span.lo.0 (omega arith, le, omega arith) lies.last lies.statement) variable-lies,
)

counts : (b q : ℕ) (c : Change) (k : Known) → KnownLies b q k → KnownLies b q (counted c k)
counts b q c k lies = record { statement = lies.statement; variable = lies.variable; last = lies.last }

read-lies : (had_line_break : Bool) (at : At) (variable : Option Export) (k : Known) → at.span.lo.0 ≤ at.span.hi.0 → KnownLies at.span.lo.0 at.span.hi.0 k → ExportLies at.span.hi.0 variable
    → KnownLies at.span.lo.0 at.span.hi.0 (stepped_behind (moved had_line_break at k) at variable k).0 × ToldLies at.span.hi.0 (stepped_behind (moved had_line_break at k) at variable k).1
read-lies had_line_break at variable k le lies variable-lies =
    let m = row k.stage (seen_by k had_line_break) at.part in (
      counts at.span.lo.0 at.span.hi.0 (moved had_line_break at k).1 (moved had_line_break at k).0 (moves m (seen_by k had_line_break) at k le lies),
      told-lies (moved had_line_break at k).1 at variable k le lies variable-lies,
    )

step-lies : (had_line_break : Bool) (at : At) (k : Known) → at.span.lo.0 ≤ at.span.hi.0 → KnownLies at.span.lo.0 at.span.hi.0 k
    → KnownLies at.span.lo.0 at.span.hi.0 (stepped had_line_break at k).0 × ToldLies at.span.hi.0 (stepped had_line_break at k).1
unfolding stepped
step-lies had_line_break at k le lies =
    let r = variables.row k.variables.stage k.variables (variable_seen k had_line_break) at.part in
    let v = variables.stepped_by r (variable_seen k had_line_break) at.span k.variables in
    let both = variables-step r (variable_seen k had_line_break) at.span.lo.0 at k le lies in
    read-lies had_line_break at (behind_told v.0 v.1 k).1 (behind_told v.0 v.1 k).0 le both.0 both.1

-- Calls

calls-further : (q r : ℕ) (calls : List Call) → q ≤ r → CallsLie q calls → CallsLie r calls
calls-further q r [] le lies = tt
calls-further q r (call ∷ calls) le lies = (call-further q r call le lies.0, calls-further q r calls le lies.1)

passes : (q : ℕ) (at : At) (calls : List Call) → q ≤ at.span.lo.0 → at.span.lo.0 ≤ at.span.hi.0 → CallsLie q calls → CallsLie at.span.hi.0 (passed at calls)
passes q at [] before le lies = tt
passes q at (call ∷ calls) before le lies = (call-goes-on at.part q at call before le lies.0, calls-further q at.span.hi.0 calls (omega (arith, before, le)) lies.1)

ends-or-passes : (ends : Bool) (q : ℕ) (at : At) (call : Call) (calls : List Call) → q ≤ at.span.lo.0 → at.span.lo.0 ≤ at.span.hi.0 → CallsLie q (call ∷ calls) → CallsLie at.span.hi.0 (if ends then passed at calls else a_call.stepped at call ∷ calls)
ends-or-passes true q at call calls before le lies = passes q at calls before le lies.1
ends-or-passes false q at call calls before le lies = passes q at (call ∷ calls) before le lies

calls-step : (q : ℕ) (at : At) (calls : List Call) → q ≤ at.span.lo.0 → at.span.lo.0 ≤ at.span.hi.0 → CallsLie q calls → CallsLie at.span.hi.0 (calls_behind at calls)
calls-step q at [] before le lies = tt
calls-step q at (call ∷ calls) before le lies = ends-or-passes (ends_with at call) q at call calls before le lies

call-told : (ends : Bool) (q : ℕ) (at : At) (call : Call) → q ≤ at.span.hi.0 → CallLies q call → ImportToldLies at.span.hi.0 (if ends then Some (a_call.ended at.span.hi call) else None)
call-told true q at call le lies = call-row at.span.hi call (call-further q at.span.hi.0 call le lies)
call-told false q at call le lies = tt

calls-told : (q : ℕ) (at : At) (calls : List Call) → q ≤ at.span.hi.0 → CallsLie q calls → ImportToldLies at.span.hi.0 (calls_told at calls)
calls-told q at [] le lies = tt
calls-told q at (call ∷ calls) le lies = call-told (ends_with at call) q at call le lies.0

begins : (at : At) (k : Known) → at.span.lo.0 ≤ at.span.hi.0 → KnownLies at.span.lo.0 at.span.hi.0 k → CallLies at.span.hi.0 (call_of k at)
begins at k le lies = record { begins = lies.statement.begins; upto = le; argument = (le, omega arith, omega arith); specifier = tt; attributes = tt }

opens-or-steps : (opening : Bool) (q : ℕ) (at : At) (k : Known) (calls : List Call) → q ≤ at.span.lo.0 → at.span.lo.0 ≤ at.span.hi.0 → KnownLies at.span.lo.0 at.span.hi.0 k → CallsLie q calls
    → CallsLie at.span.hi.0 (if opening then call_of k at ∷ calls else calls_behind at calls)
opens-or-steps true q at k calls before le lies calls-lie = (begins at k le lies, calls-further q at.span.hi.0 calls (omega (arith, before, le)) calls-lie)
opens-or-steps false q at k calls before le lies calls-lie = calls-step q at calls before le calls-lie

opens-or-tells : (opening : Bool) (q : ℕ) (at : At) (k : Known) (calls : List Call) → q ≤ at.span.lo.0 → at.span.lo.0 ≤ at.span.hi.0 → KnownLies at.span.lo.0 at.span.hi.0 k → CallsLie q calls
    → ImportToldLies at.span.hi.0 (if opening then Some (Begun (a_call.row at.span.hi (call_of k at))) else calls_told at calls)
opens-or-tells true q at k calls before le lies calls-lie = call-row at.span.hi (call_of k at) (begins at k le lies)
opens-or-tells false q at k calls before le lies calls-lie = calls-told q at calls (omega (arith, before, le)) calls-lie

either-lies : (q : ℕ) (one other : Option ImportTold) → ImportToldLies q one → ImportToldLies q other → ImportToldLies q (either one other)
either-lies q None other one-lies other-lies = other-lies
either-lies q (Some one) other one-lies other-lies = one-lies

-- The machine

pub record ScanLies (q : ℕ) (s : ScanView) : Type 0 where
  pub known : KnownLies q q s.known
  pub calls : CallsLie q s.calls

behind-lies : (b q : ℕ) (token : Kept) (at : At) (k : Known) → KnownLies b q k → Lies 0 q token.span → KnownLies b q (behind token at k)
behind-lies b q token at k lies here = record { statement = lies.statement; variable = lies.variable; last = here }

scan-step : (q : ℕ) (s : ScanView) (k : ModuleToken) → q ≤ k.kept.span.lo.0 → k.kept.span.lo.0 ≤ k.kept.span.hi.0 → ScanLies q s → ScanLies k.kept.span.hi.0 (scanned s k)
scan-step q s k before le lies =
    let at = at_of s.known k in
    let known = known-further q q k.kept.span.lo.0 k.kept.span.hi.0 s.known before (omega (arith, before, le)) lies.known in
    let read = step-lies k.kept.flag at s.known le known in
    record {
      known = known-further k.kept.span.lo.0 k.kept.span.hi.0 k.kept.span.hi.0 k.kept.span.hi.0 (behind k.kept at (stepped k.kept.flag at s.known).0) le (omega arith)
          (behind-lies k.kept.span.lo.0 k.kept.span.hi.0 k.kept at (stepped k.kept.flag at s.known).0 read.0 (omega arith, le, omega arith));
      calls = opens-or-steps (opens s.known at) q at s.known s.calls before le known lies.calls;
    }

scan-told : (q : ℕ) (s : ScanView) (k : ModuleToken) → q ≤ k.kept.span.lo.0 → k.kept.span.lo.0 ≤ k.kept.span.hi.0 → ScanLies q s → ToldLies k.kept.span.hi.0 (told s k)
scan-told q s k before le lies =
    let at = at_of s.known k in
    let known = known-further q q k.kept.span.lo.0 k.kept.span.hi.0 s.known before (omega (arith, before, le)) lies.known in
    let read = step-lies k.kept.flag at s.known le known in (
      either-lies k.kept.span.hi.0 (told_of_calls s.known at s.calls) (stepped k.kept.flag at s.known).1.import (opens-or-tells (opens s.known at) q at s.known s.calls before le known lies.calls) read.1.0,
      read.1.1,
    )

tokens-told : (q : ℕ) (s : ScanView) (ks : List ModuleToken) (k : ModuleToken) → ScanLies q s → IsPlaced q (ks ++ k ∷ []) → ToldLies k.kept.span.hi.0 (told (scan_over s ks) k)
tokens-told q s [] k lies placed = scan-told q s k placed.0 placed.1 lies
tokens-told q s (x ∷ xs) k lies placed = tokens-told x.kept.span.hi.0 (scanned s x) xs k (scan-step q s x placed.0 placed.1 lies) placed.2

pub rows-lie : RowsLieInTokens
rows-lie options ks k placed =
    tokens-told 0 (first_scan options) ks k
    (record { known = record { statement = record { begins = omega arith; specifier = tt; attributes = (omega arith, omega arith); name = (omega arith, omega arith, omega arith); alias = (omega arith, omega arith, omega arith) }; variable = (omega arith, omega arith, omega arith); last = (omega arith, omega arith, omega arith) }; calls = tt }) placed
