-- Names that an exported declaration of variables declares
use Rattle.std.specs.Prelude.{ℕ, ◌+◌, ◌*◌, ◌%◌, ◌/◌, ◌-◌, Option, Some, None, ◌==◌, ◌&&◌, ◌||◌, Bool, true, false, not, nat_lt, if◌then◌else◌}
use Rattle.ecma_module_table.specs.declared.part.Part.{Part}
use Rattle.ecma_module_table.specs.declared.part.Part.TheVariants as part
use Rattle.ecma_module_table.specs.declared.part.Word.{Word}
use Rattle.ecma_module_table.specs.declared.part.Word.TheVariants as word
use Rattle.ecma_span.specs.declared.place.Span.{Span}
use Rattle.ecma_module_table.specs.declared.variables.VariableStage.{VariableStage}
use Rattle.ecma_module_table.specs.declared.variables.VariableStage.TheVariants as stage
use Rattle.ecma_module_table.specs.declared.variables.VariableChange.{VariableChange}
use Rattle.ecma_module_table.specs.declared.variables.VariableChange.TheVariants as change
use Rattle.ecma_module_table.specs.declared.variables.VariableSeen.{VariableSeen}
use Rattle.ecma_module_table.specs.declared.variables.Variables.{Variables}
use Rattle.ecma_module_table.specs.Parts.{closes, more}

-- the stage behind a token, and what the token changes
abbrev pub Row : Type 0
Row = VariableStage × VariableChange

-- what follows in the innermost pattern, or outside of all
abbrev pub next_in : ℕ → ℕ → VariableStage
next_in depth braces = if depth == 0 then stage.Binding else (if braces % 2 == 1 then stage.Property else stage.Element)

-- whether a statement begins with the token, no semicolon before it (ECMA-262, 12.10)
abbrev pub begins_statement : VariableSeen → Part → Bool
begins_statement seen (part.Word word.Operator) = false
begins_statement seen (part.Word w) = seen.had_line_break && seen.is_behind_operand
begins_statement seen p = false

-- where a pattern comes, and nothing else can
abbrev pub pattern : Part → Row
pattern part.Brace = (stage.Property, change.Open true)
pattern part.Bracket = (stage.Element, change.Open false)
pattern p = (stage.Off, change.Nothing)

-- where a name or a pattern comes; among arguments that are types, whatever stands there
abbrev pub binding : ℕ → Part → Row
binding angles (part.Word word.Enum) = (stage.Enum, change.Nothing)
binding angles (part.Word w) = (stage.Named, change.Name)
binding angles (part.Greater count) = (stage.Initializer, change.Greater count)
binding angles p = if angles == 0 then pattern p else (stage.Initializer, change.Nothing)

abbrev pub behind_enum : Part → Row
behind_enum (part.Word w) = (stage.Off, change.TellHere)
behind_enum p = (stage.Off, change.Nothing)

-- behind a comma that comes behind a name: among arguments that are types the name is none that is declared
abbrev pub comma_behind_name : ℕ → Row
comma_behind_name angles = if angles == 0 then (stage.Binding, change.Tell) else (stage.Binding, change.Nothing)

-- behind a name that what follows doesn't belong to
abbrev pub name_ends : Bool → Row
name_ends had_line_break = if had_line_break then (stage.Off, change.Tell) else (stage.Initializer, change.Nothing)

-- behind a name, which is declared where only this can stand there
abbrev pub named : Bool → ℕ → Part → Row
named had_line_break angles part.Equals = (stage.Initializer, change.TellEnter)
named had_line_break angles part.Colon = (stage.Annotation, change.Tell)
named had_line_break angles part.Comma = comma_behind_name angles
named had_line_break angles part.Semi = (stage.Off, change.Tell)
named had_line_break angles part.Bang = (stage.Named, change.Nothing)
named had_line_break angles part.Less = (stage.Initializer, change.Less)
named had_line_break angles (part.Greater count) = (stage.Initializer, change.Greater count)
named had_line_break angles p = name_ends had_line_break

-- in a type, outside of its brackets
abbrev pub behind_type : VariableSeen → Part → Row
behind_type seen part.Equals = (stage.Initializer, change.Enter)
behind_type seen part.Comma = (stage.Binding, change.Nothing)
behind_type seen part.Semi = (stage.Off, change.Nothing)
behind_type seen p = if begins_statement seen p then (stage.Off, change.Nothing) else (stage.Annotation, change.Nothing)

abbrev pub annotation_outside : VariableSeen → ℕ → Part → Row
annotation_outside seen angles part.Less = (stage.Annotation, change.Less)
annotation_outside seen angles (part.Greater count) = (stage.Annotation, change.Greater count)
annotation_outside seen angles p = if angles == 0 then behind_type seen p else (stage.Annotation, change.Nothing)

abbrev pub annotation : VariableSeen → ℕ → Part → Row
annotation seen angles p = if nat_lt 0 seen.depth then (stage.Annotation, change.Nothing) else annotation_outside seen angles p

-- behind so many of `>` among type parameters
abbrev pub greater_in_parameters : ℕ → ℕ → Row
greater_in_parameters angles count = if nat_lt count angles then (stage.Parameters, change.Greater count) else (stage.Initializer, change.Greater count)

abbrev pub parameters_outside : ℕ → Part → Row
parameters_outside angles part.Less = (stage.Parameters, change.Less)
parameters_outside angles (part.Greater count) = greater_in_parameters angles count
parameters_outside angles part.Semi = (stage.Off, change.Nothing)
parameters_outside angles p = (stage.Parameters, change.Nothing)

abbrev pub parameters : Bool → ℕ → Part → Row
parameters is_inside angles p = if is_inside then (stage.Parameters, change.Nothing) else parameters_outside angles p

-- `<` in what is assigned: in TypeScript an operator, or the begin of arguments that are types or of an arrow function's parameters
abbrev pub less : VariableSeen → Row
less seen = if not seen.typescript then (stage.Initializer, change.Nothing) else (if seen.is_behind_operand then (stage.Initializer, change.Less) else (stage.Parameters, change.Less))

-- a bracket that closes what encloses what is assigned
abbrev pub closing : ℕ → Row
closing depth = if depth == 0 then (stage.Initializer, change.Nothing) else (stage.PatternEnd, change.Close)

-- a word in what is assigned, with which a statement may begin
abbrev pub word_assigned : VariableSeen → Part → Row
word_assigned seen p = if seen.depth == 0 && begins_statement seen p then (stage.Off, change.Nothing) else (stage.Initializer, change.Nothing)

abbrev pub initializer_outside : VariableSeen → ℕ → Part → Row
initializer_outside seen braces part.Comma = (next_in seen.depth braces, change.Nothing)
initializer_outside seen braces part.Semi = (stage.Off, change.Nothing)
initializer_outside seen braces part.Less = less seen
initializer_outside seen braces (part.Greater count) = (stage.Initializer, change.Greater count)
initializer_outside seen braces part.EndParen = closing seen.depth
initializer_outside seen braces part.EndBrace = closing seen.depth
initializer_outside seen braces part.EndBracket = closing seen.depth
initializer_outside seen braces p = word_assigned seen p

abbrev pub initializer : VariableSeen → Bool → ℕ → Part → Row
initializer seen is_inside braces p = if is_inside then (stage.Initializer, change.Nothing) else initializer_outside seen braces p

-- in the brackets of a pattern (ECMA-262, 14.3.3)
abbrev pub element : Part → Row
element (part.Word w) = (stage.Target, change.Name)
element part.Comma = (stage.Element, change.Nothing)
element part.Spread = (stage.Element, change.Nothing)
element part.Brace = (stage.Property, change.Open true)
element part.Bracket = (stage.Element, change.Open false)
element part.EndBracket = (stage.PatternEnd, change.Close)
element p = (stage.Off, change.Nothing)

-- in the braces of a pattern (ECMA-262, 14.3.3)
abbrev pub property : Part → Row
property (part.Word w) = (stage.Key, change.Name)
property part.Text = (stage.KeyEnd, change.Nothing)
property part.Number = (stage.KeyEnd, change.Nothing)
property part.Bracket = (stage.Computed, change.Enter)
property part.Comma = (stage.Property, change.Nothing)
property part.Spread = (stage.Value, change.Nothing)
property part.EndBrace = (stage.PatternEnd, change.Close)
property p = (stage.Off, change.Nothing)

abbrev pub behind_key : Part → Row
behind_key part.Colon = (stage.Value, change.Nothing)
behind_key part.Comma = (stage.Property, change.Tell)
behind_key part.Equals = (stage.Initializer, change.TellEnter)
behind_key part.EndBrace = (stage.PatternEnd, change.TellClose)
behind_key p = (stage.Off, change.Nothing)

abbrev pub computed : Bool → Part → Row
computed is_inside p = if is_inside || not (closes p) then (stage.Computed, change.Nothing) else (stage.KeyEnd, change.Nothing)

abbrev pub behind_other_key : Part → Row
behind_other_key part.Colon = (stage.Value, change.Nothing)
behind_other_key p = (stage.Off, change.Nothing)

abbrev pub value : Part → Row
value (part.Word w) = (stage.Target, change.Name)
value p = pattern p

abbrev pub behind_target : ℕ → ℕ → Part → Row
behind_target depth braces part.Comma = (next_in depth braces, change.Tell)
behind_target depth braces part.Equals = (stage.Initializer, change.TellEnter)
behind_target depth braces part.EndBrace = (stage.PatternEnd, change.TellClose)
behind_target depth braces part.EndBracket = (stage.PatternEnd, change.TellClose)
behind_target depth braces p = (stage.Off, change.Nothing)

abbrev pub behind_pattern : ℕ → ℕ → Part → Row
behind_pattern depth braces part.Comma = (next_in depth braces, change.Nothing)
behind_pattern depth braces part.Equals = (stage.Initializer, change.Enter)
behind_pattern depth braces part.Colon = (stage.Annotation, change.Nothing)
behind_pattern depth braces part.EndBrace = (stage.PatternEnd, change.Close)
behind_pattern depth braces part.EndBracket = (stage.PatternEnd, change.Close)
behind_pattern depth braces p = (stage.Off, change.Nothing)

-- a declaration at a stage
abbrev pub variables_at : VariableStage → Variables
variables_at s = record { stage = s; name = record { lo = record { 0 = 0 }; hi = record { 0 = 0 } }; angles = 0; level = 0; braces = 0 }

-- there is none
abbrev pub off : Variables
off = variables_at stage.Off

-- behind `export var`, `export let` or `export const`
abbrev pub begun : Variables
begun = variables_at stage.Binding

-- what a token does at a stage
unfoldable pub row : VariableStage → Variables → VariableSeen → Part → Row
row stage.Off v seen p = (stage.Off, change.Nothing)
row stage.Binding v seen p = binding v.angles p
row stage.Enum v seen p = behind_enum p
row stage.Named v seen p = named seen.had_line_break v.angles p
row stage.Annotation v seen p = annotation seen v.angles p
row stage.Parameters v seen p = parameters (nat_lt v.level seen.depth) v.angles p
row stage.Initializer v seen p = initializer seen (nat_lt v.level seen.depth) v.braces p
row stage.Element v seen p = element p
row stage.Property v seen p = property p
row stage.Key v seen p = behind_key p
row stage.Computed v seen p = computed (nat_lt (more v.level) seen.depth) p
row stage.KeyEnd v seen p = behind_other_key p
row stage.Value v seen p = value p
row stage.Target v seen p = behind_target seen.depth v.braces p
row stage.PatternEnd v seen p = behind_pattern seen.depth v.braces p

-- there is no declaration
abbrev pub is_off : VariableStage → Bool
is_off stage.Off = true
is_off s = false

-- one bit more, which comes last; the first of 64 goes
abbrev pub pushed : ℕ → Bool → ℕ
pushed bits bit = (bits % 9_223_372_036_854_775_808) * 2 + (if bit then 1 else 0)

-- the name that a change declares: the last one, or the one that stands here
abbrev pub told : VariableChange → Span → Span → Option Span
told change.Tell name here = Some name
told change.TellClose name here = Some name
told change.TellEnter name here = Some name
told change.TellHere name here = Some here
told c name here = None

abbrev pub name_behind : VariableChange → Span → Span → Span
name_behind change.Name name here = here
name_behind c name here = name

abbrev pub angles_behind : VariableChange → ℕ → ℕ
angles_behind change.Enter angles = 0
angles_behind change.TellEnter angles = 0
angles_behind change.Less angles = more angles
angles_behind (change.Greater count) angles = angles - count
angles_behind c angles = angles

abbrev pub level_behind : VariableChange → ℕ → ℕ → ℕ
level_behind change.Enter level depth = depth
level_behind change.TellEnter level depth = depth
level_behind c level depth = level

abbrev pub braces_behind : VariableChange → ℕ → ℕ
braces_behind (change.Open in_braces) braces = pushed braces in_braces
braces_behind change.Close braces = braces / 2
braces_behind change.TellClose braces = braces / 2
braces_behind c braces = braces

-- a declaration behind a change at a depth, by a token that lies here
abbrev pub changed : VariableStage → VariableChange → ℕ → Span → Variables → Variables
changed s c depth here v =
    record {
      stage = s;
      name = name_behind c v.name here;
      angles = angles_behind c v.angles;
      level = level_behind c v.level depth;
      braces = braces_behind c v.braces;
    }

-- a declaration behind a token, and the name that the token tells
abbrev pub stepped_by : Row → VariableSeen → Span → Variables → Variables × Option Span
stepped_by r seen here v = (changed r.0 r.1 seen.depth here v, told r.1 v.name here)

abbrev pub stepped : VariableSeen → Part → Span → Variables → Variables × Option Span
stepped seen p here v = stepped_by (row v.stage v seen p) seen here v
