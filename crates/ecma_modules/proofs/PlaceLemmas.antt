-- What is remembered lies within the tokens that were gone through, and so does what is told.
use Rattle.std.proofs.Common.{◌≤◌, ◌∷◌, ℕ, Bool, true, false, List, [], Option, Some, None, if◌then◌else◌, arith}
use Rattle.std.specs.Prelude.{⊤}
use Rattle.ecma_span.specs.declared.place.BytePos.{BytePos}
use Rattle.ecma_span.specs.declared.place.Span.{Span}
use Rattle.ecma_modules.specs.declared.calls.At.{At}
use Rattle.ecma_modules.specs.declared.calls.Call.{Call}
use Rattle.ecma_modules.specs.declared.calls.CallStage.{CallStage}
use Rattle.ecma_modules.specs.declared.calls.CallStage.TheVariants as stage
use Rattle.ecma_module_table.specs.declared.part.Part.{Part}
use Rattle.ecma_module_table.specs.declared.part.Part.TheVariants as part
use Rattle.ecma_module_table.specs.declared.rows.Import.{Import}
use Rattle.ecma_module_table.specs.declared.rows.Specifier.{Specifier}
use Rattle.ecma_module_table.specs.declared.stage.Change.{Change}
use Rattle.ecma_module_table.specs.declared.stage.Change.TheVariants as change
use Rattle.ecma_modules.specs.declared.statement.Statement.{Statement}
use Rattle.ecma_modules.specs.Calls.{argument_behind, attributes_behind, behind_comma, behind_part, goes_on, is_among, row, specifier_behind, specifier_of, up_to}
use Rattle.ecma_modules.specs.Known.{export_told, import_told, statement_behind}
use Rattle.ecma_modules.specs.Places.{ExportLies, ImportLies, Lies, SpanLies, SpecifierLies}
use Rattle.ecma_modules.specs.Statements.{end_of_string}

-- what is known of a statement that began up to a place, of tokens up to another
pub record StatementLies (b q : ℕ) (s : Statement) : Type 0 where
  pub begins : s.lo.0 ≤ b
  pub specifier : SpecifierLies s.lo.0 q s.specifier
  pub attributes : (s.lo.0 ≤ s.attributes.0) × (s.attributes.0 ≤ q)
  pub name : Lies 0 q s.name
  pub alias : Lies 0 q s.alias

specifier-further : (p q r : ℕ) (s : Option Specifier) → q ≤ r → SpecifierLies p q s → SpecifierLies p r s
specifier-further p q r None le lies = tt
specifier-further p q r (Some s) le lies = (lies.0, lies.1, omega (arith, lies.2, le))

pub lies-further : (p q r : ℕ) (s : Span) → q ≤ r → Lies p q s → Lies p r s
lies-further p q r s le lies = (lies.0, lies.1, omega (arith, lies.2, le))

-- further on
pub statement-further : (b q c r : ℕ) (s : Statement) → b ≤ c → q ≤ r → StatementLies b q s → StatementLies c r s
statement-further b q c r s bc qr lies =
    record {
      begins = omega (arith, lies.begins, bc);
      specifier = specifier-further s.lo.0 q r s.specifier qr lies.specifier;
      attributes = (lies.attributes.0, omega (arith, lies.attributes.1, qr));
      name = lies-further 0 q r s.name qr lies.name;
      alias = lies-further 0 q r s.alias qr lies.alias;
    }

-- behind a change by a token that lies there
pub statement-changes : (c : Change) (at : At) (exports : ℕ) (s : Statement) → at.span.lo.0 ≤ at.span.hi.0 → StatementLies at.span.lo.0 at.span.hi.0 s → StatementLies at.span.lo.0 at.span.hi.0 (statement_behind c at exports s)
statement-changes change.Begin at exports s le lies = record { begins = omega arith; specifier = tt; attributes = (omega arith, le); name = (omega arith, le, omega arith); alias = (omega arith, le, omega arith) }
statement-changes change.BeginType at exports s le lies = record { begins = omega arith; specifier = tt; attributes = (omega arith, le); name = (omega arith, le, omega arith); alias = (omega arith, le, omega arith) }
statement-changes change.BeginExport at exports s le lies = record { begins = omega arith; specifier = tt; attributes = (omega arith, le); name = (omega arith, le, omega arith); alias = (omega arith, le, omega arith) }
statement-changes change.BeginOther at exports s le lies = record { begins = omega arith; specifier = tt; attributes = (omega arith, le); name = (omega arith, le, omega arith); alias = (omega arith, le, omega arith) }
statement-changes change.TypeOnly at exports s le lies = record { begins = lies.begins; specifier = lies.specifier; attributes = lies.attributes; name = lies.name; alias = lies.alias }
statement-changes (change.Phase phase) at exports s le lies = record { begins = lies.begins; specifier = lies.specifier; attributes = lies.attributes; name = lies.name; alias = lies.alias }
statement-changes (change.Specify form) at exports s le lies = record { begins = lies.begins; specifier = (lies.begins, le, omega arith); attributes = lies.attributes; name = lies.name; alias = lies.alias }
statement-changes change.CompleteText at exports s le lies = record { begins = lies.begins; specifier = (lies.begins, le, omega arith); attributes = lies.attributes; name = lies.name; alias = lies.alias }
statement-changes change.Attributes at exports s le lies = record { begins = lies.begins; specifier = lies.specifier; attributes = (lies.begins, le); name = lies.name; alias = lies.alias }
statement-changes change.Name at exports s le lies = record { begins = lies.begins; specifier = lies.specifier; attributes = lies.attributes; name = (omega arith, le, omega arith); alias = lies.alias }
statement-changes change.TypeName at exports s le lies = record { begins = lies.begins; specifier = lies.specifier; attributes = lies.attributes; name = (omega arith, le, omega arith); alias = lies.alias }
statement-changes change.Alias at exports s le lies = record { begins = lies.begins; specifier = lies.specifier; attributes = lies.attributes; name = lies.name; alias = (omega arith, le, omega arith) }
statement-changes c at exports s le lies = lies

abbrev pub ImportOptionLies : ℕ → Option Import → Type 0
ImportOptionLies q None = ⊤
ImportOptionLies q (Some row) = ImportLies q row

-- where the string ends, in tokens up to a place
string-ends : (lo : BytePos) (q : ℕ) (s : Option Specifier) → lo.0 ≤ q → SpecifierLies lo.0 q s → (lo.0 ≤ (end_of_string s lo).0) × ((end_of_string s lo).0 ≤ q) × SpecifierLies lo.0 (end_of_string s lo).0 s
string-ends lo q None le lies = (omega arith, le, tt)
string-ends lo q (Some s) le lies = (omega (arith, lies.0, lies.1), lies.2, (lies.0, lies.1, omega arith))

-- what a change tells of an import
pub import-lies : (c : Change) (at : At) (exports : ℕ) (s : Statement) → at.span.lo.0 ≤ at.span.hi.0 → StatementLies at.span.lo.0 at.span.hi.0 s → ImportOptionLies at.span.hi.0 (import_told c at exports s)
import-lies change.Complete at exports s le lies =
    let end = string-ends s.lo at.span.hi.0 s.specifier (omega (arith, lies.begins, le)) lies.specifier in
    record { statement = (omega arith, end.0, end.1); specifier = end.2; argument = tt; attributes = tt }
import-lies change.CompleteAttributes at exports s le lies = record { statement = (omega arith, omega (arith, lies.begins, le), omega arith); specifier = lies.specifier; argument = tt; attributes = (lies.attributes.0, lies.attributes.1, omega arith) }
import-lies change.CompleteHere at exports s le lies = record { statement = (omega arith, omega (arith, lies.begins, le), omega arith); specifier = lies.specifier; argument = tt; attributes = tt }
import-lies change.CompleteText at exports s le lies = record { statement = (omega arith, omega (arith, lies.begins, le), omega arith); specifier = (lies.begins, le, omega arith); argument = tt; attributes = tt }
import-lies change.Meta at exports s le lies = record { statement = (omega arith, omega (arith, lies.begins, le), omega arith); specifier = lies.specifier; argument = tt; attributes = tt }
import-lies c at exports s le lies = tt

-- and of an export
pub export-lies : (c : Change) (here last : Span) (q : ℕ) (s : Statement) (b : ℕ) → Lies 0 q here → Lies 0 q last → StatementLies b q s → ExportLies q (export_told c here last s)
export-lies change.TellName here last q s b at le lies = (lies.name, lies.name)
export-lies change.TellAs here last q s b at le lies = (at, lies.name)
export-lies change.TellLast here last q s b at le lies = (le, lies.name)
export-lies change.TellAlias here last q s b at le lies = (lies.alias, lies.alias)
export-lies change.TellAliasAs here last q s b at le lies = (at, lies.alias)
export-lies change.TellAlone here last q s b at le lies = (at, tt)
export-lies change.TellDeclared here last q s b at le lies = (at, at)
export-lies change.TellType here last q s b at le lies = (at, at)
export-lies change.TellDefault here last q s b at le lies = (lies.name, tt)
export-lies change.TellDefaultName here last q s b at le lies = (lies.name, at)
export-lies change.TellDefaultType here last q s b at le lies = (lies.name, at)
export-lies c here last q s b at le lies = tt

-- Calls

-- a call whose parentheses begin in tokens up to a place
pub record CallLies (q : ℕ) (call : Call) : Type 0 where
  pub begins : call.statement.lo.0 ≤ call.paren.0
  pub upto : call.paren.0 ≤ q
  pub argument : Lies call.paren.0 q call.argument
  pub specifier : SpecifierLies call.paren.0 q call.specifier
  pub attributes : SpanLies call.paren.0 q call.attributes

pub span-further : (p q r : ℕ) (s : Option Span) → q ≤ r → SpanLies p q s → SpanLies p r s
span-further p q r None le lies = tt
span-further p q r (Some s) le lies = lies-further p q r s le lies

span-before : (p r q : ℕ) (s : Option Span) → p ≤ r → SpanLies r q s → SpanLies p q s
span-before p r q None le lies = tt
span-before p r q (Some s) le lies = (omega (arith, le, lies.0), lies.1, lies.2)

specifier-before : (p r q : ℕ) (s : Option Specifier) → p ≤ r → SpecifierLies r q s → SpecifierLies p q s
specifier-before p r q None le lies = tt
specifier-before p r q (Some s) le lies = (omega (arith, le, lies.0), lies.1, lies.2)

pub call-further : (q r : ℕ) (call : Call) → q ≤ r → CallLies q call → CallLies r call
call-further q r call le lies =
    record {
      begins = lies.begins;
      upto = omega (arith, lies.upto, le);
      argument = lies-further call.paren.0 q r call.argument le lies.argument;
      specifier = specifier-further call.paren.0 q r call.specifier le lies.specifier;
      attributes = span-further call.paren.0 q r call.attributes le lies.attributes;
    }

-- behind a token of an argument
argument-goes-on : (s : CallStage) (p q : ℕ) (argument here : Span) → q ≤ here.lo.0 → here.lo.0 ≤ here.hi.0 → p ≤ q → Lies p q argument → Lies p here.hi.0 (argument_behind s argument here)
argument-goes-on stage.Paren p q argument here before le begins lies = (omega (arith, before, begins), le, omega arith)
argument-goes-on stage.First p q argument here before le begins lies = (lies.0, omega (arith, lies.1, lies.2, before, le), omega arith)
argument-goes-on stage.Comma p q argument here before le begins lies = lies-further p q here.hi.0 argument (omega (arith, before, le)) lies
argument-goes-on stage.Second p q argument here before le begins lies = lies-further p q here.hi.0 argument (omega (arith, before, le)) lies
argument-goes-on stage.Rest p q argument here before le begins lies = lies-further p q here.hi.0 argument (omega (arith, before, le)) lies

specifier-of : (p : Part) (at : At) (from : ℕ) → from ≤ at.span.lo.0 → at.span.lo.0 ≤ at.span.hi.0 → SpecifierLies from at.span.hi.0 (specifier_of at p)
specifier-of part.Text at from before le = (before, le, omega arith)
specifier-of p at from before le = tt

specifier-goes-on : (s : CallStage) (from q : ℕ) (specifier : Option Specifier) (at : At) → q ≤ at.span.lo.0 → at.span.lo.0 ≤ at.span.hi.0 → from ≤ q → SpecifierLies from q specifier → SpecifierLies from at.span.hi.0 (specifier_behind s specifier at)
specifier-goes-on stage.Paren from q specifier at before le begins lies = specifier-of at.part at from (omega (arith, before, begins)) le
specifier-goes-on stage.First from q specifier at before le begins lies = tt
specifier-goes-on stage.Comma from q specifier at before le begins lies = specifier-further from q at.span.hi.0 specifier (omega (arith, before, le)) lies
specifier-goes-on stage.Second from q specifier at before le begins lies = specifier-further from q at.span.hi.0 specifier (omega (arith, before, le)) lies
specifier-goes-on stage.Rest from q specifier at before le begins lies = specifier-further from q at.span.hi.0 specifier (omega (arith, before, le)) lies

up-to : (from q : ℕ) (span : Option Span) (here : Span) → q ≤ here.lo.0 → here.lo.0 ≤ here.hi.0 → from ≤ q → SpanLies from q span → Lies from here.hi.0 (up_to span here)
up-to from q None here before le begins lies = (omega (arith, before, begins), le, omega arith)
up-to from q (Some s) here before le begins lies = (lies.0, omega (arith, lies.1, lies.2, before, le), omega arith)

attributes-go-on : (s : CallStage) (from q : ℕ) (attributes : Option Span) (here : Span) → q ≤ here.lo.0 → here.lo.0 ≤ here.hi.0 → from ≤ q → SpanLies from q attributes → SpanLies from here.hi.0 (attributes_behind s attributes here)
attributes-go-on stage.Comma from q attributes here before le begins lies = up-to from q attributes here before le begins lies
attributes-go-on stage.Second from q attributes here before le begins lies = up-to from q attributes here before le begins lies
attributes-go-on stage.Paren from q attributes here before le begins lies = span-further from q here.hi.0 attributes (omega (arith, before, le)) lies
attributes-go-on stage.First from q attributes here before le begins lies = span-further from q here.hi.0 attributes (omega (arith, before, le)) lies
attributes-go-on stage.Rest from q attributes here before le begins lies = span-further from q here.hi.0 attributes (omega (arith, before, le)) lies

behind-part : (q : ℕ) (at : At) (call : Call) → q ≤ at.span.lo.0 → at.span.lo.0 ≤ at.span.hi.0 → CallLies q call → CallLies at.span.hi.0 (behind_part at call)
behind-part q at call before le lies =
    record {
      begins = lies.begins;
      upto = omega (arith, lies.upto, before, le);
      argument = argument-goes-on call.stage call.paren.0 q call.argument at.span before le lies.upto lies.argument;
      specifier = specifier-goes-on call.stage call.paren.0 q call.specifier at before le lies.upto lies.specifier;
      attributes = attributes-go-on call.stage call.paren.0 q call.attributes at.span before le lies.upto lies.attributes;
    }

behind-comma : (q : ℕ) (at : At) (call : Call) → q ≤ at.span.hi.0 → CallLies q call → CallLies at.span.hi.0 (behind_comma at call)
behind-comma q at call le lies =
    let more = call-further q at.span.hi.0 call le lies in
    record { begins = more.begins; upto = more.upto; argument = more.argument; specifier = more.specifier; attributes = more.attributes }

comma-or-part : (among : Bool) (q : ℕ) (at : At) (call : Call) → q ≤ at.span.lo.0 → at.span.lo.0 ≤ at.span.hi.0 → CallLies q call → CallLies at.span.hi.0 (if among then behind_comma at call else behind_part at call)
comma-or-part true q at call before le lies = behind-comma q at call (omega (arith, before, le)) lies
comma-or-part false q at call before le lies = behind-part q at call before le lies

pub call-goes-on : (p : Part) (q : ℕ) (at : At) (call : Call) → q ≤ at.span.lo.0 → at.span.lo.0 ≤ at.span.hi.0 → CallLies q call → CallLies at.span.hi.0 (goes_on p at call)
call-goes-on part.Comma q at call before le lies = comma-or-part (is_among call at) q at call before le lies
call-goes-on p q at call before le lies = behind-part q at call before le lies

-- the row of a call
pub call-row : (hi : BytePos) (call : Call) → CallLies hi.0 call → ImportLies hi.0 (row hi call)
call-row hi call lies =
    record {
      statement = (omega arith, omega (arith, lies.begins, lies.upto), omega arith);
      specifier = specifier-before call.statement.lo.0 call.paren.0 hi.0 call.specifier lies.begins lies.specifier;
      argument = (lies.begins, lies.argument);
      attributes = span-before call.statement.lo.0 call.paren.0 hi.0 call.attributes lies.begins lies.attributes;
    }

-- calls that are open
abbrev pub CallsLie : ℕ → List Call → Type 0
CallsLie q [] = ⊤
CallsLie q (call ∷ calls) = CallLies q call × CallsLie q calls
