-- Calls of `import` whose parentheses are open (ECMA-262, 13.3.10)
use Rattle.std.specs.Prelude.{ℕ, ◌&&◌, ◌∷◌, Bool, List, [], Option, Some, None, not, nat_lt, if◌then◌else◌}
use Rattle.ecma_span.specs.declared.place.BytePos.{BytePos}
use Rattle.ecma_span.specs.declared.place.Span.{Span}
use Rattle.ecma_modules.specs.declared.calls.At.{At}
use Rattle.ecma_modules.specs.declared.calls.Call.{Call}
use Rattle.ecma_modules.specs.declared.calls.CallStage.{CallStage}
use Rattle.ecma_modules.specs.declared.calls.CallStage.TheVariants as stage
use Rattle.ecma_module_table.specs.declared.part.Part.{Part}
use Rattle.ecma_module_table.specs.declared.part.Part.TheVariants as part
use Rattle.ecma_module_table.specs.declared.rows.Form.TheVariants as form
use Rattle.ecma_module_table.specs.declared.rows.Import.{Import}
use Rattle.ecma_module_table.specs.declared.rows.ImportTold.{ImportTold}
use Rattle.ecma_module_table.specs.declared.rows.ImportTold.TheVariants.{Ended}
use Rattle.ecma_module_table.specs.declared.rows.Phase.{Phase}
use Rattle.ecma_module_table.specs.declared.rows.Specifier.{Specifier}
use Rattle.ecma_module_table.specs.Parts.{closes, more}

-- from one place to another
abbrev pub between : BytePos → BytePos → Span
between lo hi = record { lo = lo; hi = hi }

-- a string, where the token is one
abbrev pub specifier_of : At → Part → Option Specifier
specifier_of at part.Text = Some (record { index = at.index; span = at.span })
specifier_of at p = None

-- from the beginning of a span, or else of the token, to the end of the token
abbrev pub up_to : Option Span → Span → Span
up_to (Some span) here = between span.lo here.hi
up_to None here = here

-- a call whose parentheses begin here
abbrev pub begun : ℕ → BytePos → Phase → Bool → ℕ → At → Call
begun number lo phase is_type exports at =
    record {
      number = number;
      depth = at.depth;
      stage = stage.Paren;
      phase = phase;
      is_type = is_type;
      exports = exports;
      statement = between lo at.span.hi;
      paren = at.span.lo;
      argument = between at.span.hi at.span.hi;
      specifier = None;
      attributes = None;
    }

abbrev pub stage_behind_comma : CallStage → CallStage
stage_behind_comma stage.Paren = stage.Comma
stage_behind_comma stage.First = stage.Comma
stage_behind_comma s = stage.Rest

abbrev pub stage_behind_part : CallStage → CallStage
stage_behind_part stage.Paren = stage.First
stage_behind_part stage.First = stage.First
stage_behind_part stage.Comma = stage.Second
stage_behind_part stage.Second = stage.Second
stage_behind_part stage.Rest = stage.Rest

abbrev pub argument_behind : CallStage → Span → Span → Span
argument_behind stage.Paren argument here = here
argument_behind stage.First argument here = between argument.lo here.hi
argument_behind s argument here = argument

-- a string is the specifier where it is all of the first argument
abbrev pub specifier_behind : CallStage → Option Specifier → At → Option Specifier
specifier_behind stage.Paren specifier at = specifier_of at at.part
specifier_behind stage.First specifier at = None
specifier_behind s specifier at = specifier

abbrev pub attributes_behind : CallStage → Option Span → Span → Option Span
attributes_behind stage.Comma attributes here = Some (up_to attributes here)
attributes_behind stage.Second attributes here = Some (up_to attributes here)
attributes_behind s attributes here = attributes

-- a call behind a comma between its arguments
abbrev pub behind_comma : At → Call → Call
behind_comma at call =
    record {
      number = call.number;
      depth = call.depth;
      stage = stage_behind_comma call.stage;
      phase = call.phase;
      is_type = call.is_type;
      exports = call.exports;
      statement = between call.statement.lo at.span.hi;
      paren = call.paren;
      argument = call.argument;
      specifier = call.specifier;
      attributes = call.attributes;
    }

-- a call behind a token of an argument
abbrev pub behind_part : At → Call → Call
behind_part at call =
    record {
      number = call.number;
      depth = call.depth;
      stage = stage_behind_part call.stage;
      phase = call.phase;
      is_type = call.is_type;
      exports = call.exports;
      statement = between call.statement.lo at.span.hi;
      paren = call.paren;
      argument = argument_behind call.stage call.argument at.span;
      specifier = specifier_behind call.stage call.specifier at;
      attributes = attributes_behind call.stage call.attributes at.span;
    }

-- a token stands no deeper than the arguments of a call
abbrev pub is_among : Call → At → Bool
is_among call at = not (nat_lt (more call.depth) at.depth)

abbrev pub goes_on : Part → At → Call → Call
goes_on part.Comma at call = if is_among call at then behind_comma at call else behind_part at call
goes_on p at call = behind_part at call

-- a call behind a token that does not end it
abbrev pub stepped : At → Call → Call
stepped at call = goes_on at.part at call

-- the token closes the parentheses of a call
abbrev pub ends_with : At → Call → Bool
ends_with at call = closes at.part && is_among call at

-- the row of a call up to a place
abbrev pub row : BytePos → Call → Import
row hi call =
    record {
      form = form.Call;
      phase = call.phase;
      is_type = call.is_type;
      statement = between call.statement.lo hi;
      specifier = call.specifier;
      argument = Some (record { paren = call.paren; span = call.argument });
      attributes = call.attributes;
      first_export = call.exports;
      exports = 0;
    }

-- that a call has ended
abbrev pub ended : BytePos → Call → ImportTold
ended hi call = Ended call.number (row hi call)

-- Calls that are open, the innermost first

abbrev pub nested : Option Call → List Call → List Call
nested None around = []
nested (Some call) around = call ∷ around

-- behind a token that goes on with the innermost
abbrev pub passed : At → List Call → List Call
passed at [] = []
passed at (call ∷ calls) = stepped at call ∷ calls

-- behind a token, which ends the innermost or goes on with it
abbrev pub calls_behind : At → List Call → List Call
calls_behind at [] = []
calls_behind at (call ∷ calls) = if ends_with at call then passed at calls else stepped at call ∷ calls

-- what a token tells of them
abbrev pub calls_told : At → List Call → Option ImportTold
calls_told at [] = None
calls_told at (call ∷ calls) = if ends_with at call then Some (ended at.span.hi call) else None

-- at the end of a text, by its last token: the innermost ends, and the one around it goes on
abbrev pub calls_ended : At → List Call → List Call
calls_ended at [] = []
calls_ended at (call ∷ calls) = passed at calls

abbrev pub told_at_end : At → List Call → Option ImportTold
told_at_end at [] = None
told_at_end at (call ∷ calls) = Some (ended at.span.hi call)
