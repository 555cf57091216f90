-- Rows of imports
use Rattle.std.specs.Prelude.{ℕ, ◌==◌, Bool, false, if◌then◌else◌}
use Rattle.ecma_module_table.specs.declared.part.Part.{Part}
use Rattle.ecma_module_table.specs.declared.part.Part.TheVariants as part
use Rattle.ecma_module_table.specs.declared.part.Word.{Word}
use Rattle.ecma_module_table.specs.declared.part.Word.TheVariants as word
use Rattle.ecma_module_table.specs.declared.rows.Form.TheVariants as form
use Rattle.ecma_module_table.specs.declared.rows.Phase.TheVariants as phase
use Rattle.ecma_module_table.specs.declared.stage.Stage.TheVariants as stage
use Rattle.ecma_module_table.specs.declared.stage.Change.TheVariants as change
use Rattle.ecma_module_table.specs.declared.stage.Move.{Move}
use Rattle.ecma_module_table.specs.declared.stage.Move.TheVariants.{To, Again}

-- behind `import`, where a declaration may begin (ECMA-262, 16.2.2, 13.3.10)
abbrev pub behind_import : Part → Move
behind_import part.Text = To stage.Specified (change.Specify form.Static)
behind_import part.Paren = To stage.Nothing change.Call
behind_import part.Member = To stage.ImportMember change.Nothing
behind_import part.Brace = To stage.ImportBraces change.Nothing
behind_import part.Star = To stage.ImportClause change.Nothing
behind_import (part.Word word.Type) = To stage.ImportType change.Nothing
behind_import (part.Word word.OfFive) = To stage.ImportDefer change.Nothing
behind_import (part.Word word.OfSix) = To stage.ImportSource change.Nothing
behind_import (part.Word w) = To stage.ImportName change.Nothing
behind_import p = Again change.Other

-- behind `import` elsewhere (ECMA-262, 13.3.10, 13.3.12)
abbrev pub behind_inside : Part → Move
behind_inside part.Paren = To stage.Nothing change.Call
behind_inside part.Member = To stage.ImportMember change.Nothing
behind_inside p = Again change.Other

-- behind `import.` (ECMA-262, 13.3.12, and the proposals of deferred and source phase imports)
abbrev pub behind_import_member : Part → Move
behind_import_member (part.Word word.Meta) = To stage.Nothing change.Meta
behind_import_member (part.Word word.OfFive) = To stage.PhaseCall (change.Phase phase.Defer)
behind_import_member (part.Word word.OfSix) = To stage.PhaseCall (change.Phase phase.Source)
behind_import_member p = Again change.Other

abbrev pub behind_phase : Part → Move
behind_phase part.Paren = To stage.Nothing change.Call
behind_phase p = Again change.Other

-- behind `import type` of TypeScript, where `type` may be the name that is imported
abbrev pub behind_import_type : Part → Move
behind_import_type part.Brace = To stage.ImportBraces change.TypeOnly
behind_import_type part.Star = To stage.ImportClause change.TypeOnly
behind_import_type (part.Word word.From) = To stage.ImportTypeFrom change.Nothing
behind_import_type (part.Word w) = To stage.ImportName change.TypeOnly
behind_import_type part.Comma = To stage.ImportClause change.Nothing
behind_import_type part.Equals = To stage.Equals change.Nothing
behind_import_type p = Again change.Other

-- behind `import type from`, where `from` may be the name that is imported
abbrev pub behind_import_type_from : Part → Move
behind_import_type_from part.Text = To stage.Specified (change.Specify form.Static)
behind_import_type_from (part.Word word.From) = To stage.From change.TypeOnly
behind_import_type_from part.Equals = To stage.Equals change.TypeOnly
behind_import_type_from p = Again change.Other

-- behind a name that is imported first
abbrev pub behind_import_name : Part → Move
behind_import_name (part.Word word.From) = To stage.From change.Nothing
behind_import_name part.Comma = To stage.ImportClause change.Nothing
behind_import_name part.Equals = To stage.Equals change.Nothing
behind_import_name p = Again change.Other

-- behind `import defer`, where `defer` may be the name that is imported, or any name of as many letters stand
abbrev pub behind_import_defer : Part → Move
behind_import_defer part.Star = To stage.ImportClause (change.Phase phase.Defer)
behind_import_defer p = behind_import_name p

-- behind `import source`, where `source` may be the name that is imported, or any name of as many letters stand
abbrev pub behind_import_source : Part → Move
behind_import_source (part.Word word.From) = To stage.ImportSourceFrom change.Nothing
behind_import_source (part.Word w) = To stage.ImportName (change.Phase phase.Source)
behind_import_source p = behind_import_name p

-- behind `from`, which may be a name too
abbrev pub behind_from : Part → Move
behind_from part.Text = To stage.Specified (change.Specify form.Static)
behind_from (part.Word word.From) = To stage.From change.Nothing
behind_from p = Again change.Other

-- behind `import source from`, where `from` may be the name that is imported
abbrev pub behind_import_source_from : Part → Move
behind_import_source_from (part.Word word.From) = To stage.From (change.Phase phase.Source)
behind_import_source_from p = behind_from p

-- behind a comma or a star of what is imported
abbrev pub behind_import_clause : Part → Move
behind_import_clause part.Brace = To stage.ImportBraces change.Nothing
behind_import_clause (part.Word word.From) = To stage.From change.Nothing
behind_import_clause part.Star = To stage.ImportClause change.Nothing
behind_import_clause (part.Word w) = To stage.ImportClause change.Nothing
behind_import_clause p = Again change.Other

-- in the braces of what is imported: the brace that closes them leaves nothing open
abbrev pub in_import_braces : ℕ → Part → Move
in_import_braces depth part.EndBrace = if depth == 1 then To stage.BeforeFrom change.Nothing else To stage.ImportBraces change.Nothing
in_import_braces depth p = To stage.ImportBraces change.Nothing

abbrev pub before_from : Part → Move
before_from (part.Word word.From) = To stage.From change.Nothing
before_from p = Again change.Other

-- behind the `from` of an export (ECMA-262, 16.2.3)
abbrev pub behind_export_from : Part → Move
behind_export_from part.Text = To stage.Specified (change.Specify form.Reexport)
behind_export_from p = Again change.Other

-- behind the string that names a module (ECMA-262, 16.2.2; `assert` was there before `with`)
abbrev pub behind_specifier : Bool → Part → Move
behind_specifier had_line_break (part.Word word.With) = To stage.With change.Nothing
behind_specifier false (part.Word word.Assert) = To stage.With change.Nothing
behind_specifier had_line_break p = Again change.Complete

abbrev pub behind_with : Part → Move
behind_with part.Brace = To stage.Attributes change.Attributes
behind_with p = Again change.Complete

-- in the braces of attributes: the brace that closes them leaves nothing open
abbrev pub in_attributes : ℕ → Part → Move
in_attributes depth part.EndBrace = if depth == 1 then To stage.Nothing change.CompleteAttributes else To stage.Attributes change.Nothing
in_attributes depth p = To stage.Attributes change.Nothing
