-- Rows of exports
use Rattle.std.specs.Prelude.{ℕ, ◌==◌, Bool, false, if◌then◌else◌}
use Rattle.ecma_module_table.specs.declared.part.Part.{Part}
use Rattle.ecma_module_table.specs.declared.part.Part.TheVariants as part
use Rattle.ecma_module_table.specs.declared.part.Word.{Word}
use Rattle.ecma_module_table.specs.declared.part.Word.TheVariants as word
use Rattle.ecma_module_table.specs.declared.stage.Stage.TheVariants as stage
use Rattle.ecma_module_table.specs.declared.stage.Change.TheVariants as change
use Rattle.ecma_module_table.specs.declared.stage.Move.{Move}
use Rattle.ecma_module_table.specs.declared.stage.Move.TheVariants.{To, Again}

-- behind words of an export that is no clause (ECMA-262, 16.2.3)
abbrev pub behind_export_word : Word → Move
behind_export_word word.Default = To stage.Default change.Name
behind_export_word word.Variable = To stage.Nothing change.Variables
behind_export_word word.Async = To stage.Async change.Nothing
behind_export_word word.Function = To stage.Function change.Nothing
behind_export_word word.Class = To stage.Class change.Nothing
behind_export_word word.Abstract = To stage.Export change.Nothing
behind_export_word word.Declare = To stage.Export change.Nothing
behind_export_word word.Enum = To stage.Declared change.Nothing
behind_export_word word.Namespace = To stage.Declared change.Nothing
behind_export_word word.OfSix = To stage.Declared change.Nothing
behind_export_word word.Interface = To stage.Interface change.Nothing
behind_export_word word.Type = To stage.ExportType change.Nothing
behind_export_word word.Import = To stage.ExportImport change.Nothing
behind_export_word w = Again change.Other

-- behind `export` (ECMA-262, 16.2.3)
abbrev pub behind_export : Part → Move
behind_export part.Star = To stage.ExportStar change.Nothing
behind_export part.Brace = To stage.Names change.Nothing
behind_export part.At = To stage.Decorators change.Nothing
behind_export (part.Word w) = behind_export_word w
behind_export p = Again change.Other

abbrev pub before_export_from : Part → Move
before_export_from (part.Word word.From) = To stage.ExportFrom change.Nothing
before_export_from p = Again change.Other

-- behind `export *`
abbrev pub behind_star : Part → Move
behind_star (part.Word word.As) = To stage.ExportStarAs change.Nothing
behind_star p = before_export_from p

abbrev pub behind_star_as : Part → Move
behind_star_as (part.Word w) = To stage.ExportStarName change.TellAlone
behind_star_as part.Text = To stage.ExportStarName change.TellAlone
behind_star_as p = Again change.Other

-- behind `export type` of TypeScript
abbrev pub behind_export_type : Part → Move
behind_export_type part.Star = To stage.ExportStar change.TypeOnly
behind_export_type part.Brace = To stage.Names change.TypeOnly
behind_export_type (part.Word w) = To stage.Nothing change.TellType
behind_export_type p = Again change.Other

-- in the braces of an export, where a name comes
abbrev pub before_name : Part → Move
before_name (part.Word word.Type) = To stage.NameType change.Name
before_name (part.Word w) = To stage.Name change.Name
before_name part.Text = To stage.Name change.Name
before_name part.Comma = To stage.Names change.Nothing
before_name part.EndBrace = To stage.NamesEnd change.Nothing
before_name p = Again change.Other

-- behind a name there
abbrev pub behind_name : Part → Move
behind_name (part.Word word.As) = To stage.NameAs change.Nothing
behind_name part.Comma = To stage.Names change.TellName
behind_name part.EndBrace = To stage.NamesEnd change.TellName
behind_name p = Again change.Other

abbrev pub behind_name_as : Part → Move
behind_name_as (part.Word w) = To stage.NameEnd change.TellAs
behind_name_as part.Text = To stage.NameEnd change.TellAs
behind_name_as p = Again change.Other

-- behind `type` there, which is a name or TypeScript's word before one
abbrev pub behind_name_type : Part → Move
behind_name_type (part.Word word.As) = To stage.NameTypeAs change.Alias
behind_name_type (part.Word w) = To stage.Name change.TypeName
behind_name_type part.Text = To stage.Name change.TypeName
behind_name_type p = behind_name p

-- behind `type as` there: one of the two is a name
abbrev pub behind_name_type_as : Part → Move
behind_name_type_as (part.Word word.As) = To stage.NameTypeAsAs change.Nothing
behind_name_type_as part.Comma = To stage.Names change.TellAlias
behind_name_type_as part.EndBrace = To stage.NamesEnd change.TellAlias
behind_name_type_as p = behind_name_as p

-- behind `type as as` there
abbrev pub behind_name_type_as_as : Part → Move
behind_name_type_as_as part.Comma = To stage.Names change.TellLast
behind_name_type_as_as part.EndBrace = To stage.NamesEnd change.TellLast
behind_name_type_as_as (part.Word w) = To stage.NameEnd change.TellAliasAs
behind_name_type_as_as part.Text = To stage.NameEnd change.TellAliasAs
behind_name_type_as_as p = Again change.Other

abbrev pub behind_name_end : Part → Move
behind_name_end part.Comma = To stage.Names change.Nothing
behind_name_end part.EndBrace = To stage.NamesEnd change.Nothing
behind_name_end p = Again change.Other

-- behind the braces of an export, with which it ends where no `from` comes
abbrev pub behind_names : Part → Move
behind_names (part.Word word.From) = To stage.ExportFrom change.Nothing
behind_names p = Again change.Nothing

-- behind `export default` (ECMA-262, 16.2.3)
abbrev pub behind_default : Part → Move
behind_default (part.Word word.Async) = To stage.DefaultAsync change.Nothing
behind_default (part.Word word.Function) = To stage.DefaultFunction change.Nothing
behind_default (part.Word word.Class) = To stage.DefaultClass change.Nothing
behind_default (part.Word word.Abstract) = To stage.DefaultAbstract change.Nothing
behind_default (part.Word word.Interface) = To stage.DefaultInterface change.Nothing
behind_default part.At = To stage.DefaultDecorators change.Nothing
behind_default p = Again change.TellDefault

-- behind `export default async`: no line terminator comes before `function` (ECMA-262, 15.8)
abbrev pub behind_default_async : Bool → Part → Move
behind_default_async false (part.Word word.Function) = To stage.DefaultFunction change.Nothing
behind_default_async had_line_break p = Again change.TellDefault

abbrev pub behind_default_abstract : Part → Move
behind_default_abstract (part.Word word.Class) = To stage.DefaultClass change.Nothing
behind_default_abstract p = Again change.TellDefault

abbrev pub behind_default_function : Part → Move
behind_default_function part.Star = To stage.DefaultFunction change.Nothing
behind_default_function (part.Word w) = To stage.Nothing change.TellDefaultName
behind_default_function p = Again change.TellDefault

abbrev pub behind_default_class : Part → Move
behind_default_class (part.Word word.Heritage) = Again change.TellDefault
behind_default_class (part.Word w) = To stage.Nothing change.TellDefaultName
behind_default_class p = Again change.TellDefault

abbrev pub behind_default_interface : Part → Move
behind_default_interface (part.Word w) = To stage.Nothing change.TellDefaultType
behind_default_interface p = Again change.TellDefault

-- in the decorators of an export, behind which the class comes
abbrev pub in_decorators : ℕ → Part → Move
in_decorators depth (part.Word word.Class) = if depth == 0 then To stage.Class change.Nothing else To stage.Decorators change.Nothing
in_decorators depth part.Semi = Again change.Other
in_decorators depth p = To stage.Decorators change.Nothing

-- in the decorators of an export by default, behind which the class comes
abbrev pub in_default_decorators : ℕ → Part → Move
in_default_decorators depth (part.Word word.Class) = if depth == 0 then To stage.DefaultClass change.Nothing else To stage.DefaultDecorators change.Nothing
in_default_decorators depth part.Semi = Again change.TellDefault
in_default_decorators depth p = To stage.DefaultDecorators change.Nothing

-- behind `export async`: no line terminator comes before `function` (ECMA-262, 15.8)
abbrev pub behind_async : Bool → Part → Move
behind_async false (part.Word word.Function) = To stage.Function change.Nothing
behind_async had_line_break p = Again change.Other

abbrev pub behind_declaring : Part → Move
behind_declaring (part.Word w) = To stage.Nothing change.TellDeclared
behind_declaring p = Again change.Other

abbrev pub behind_function : Part → Move
behind_function part.Star = To stage.Function change.Nothing
behind_function p = behind_declaring p

abbrev pub behind_class : Part → Move
behind_class (part.Word word.Heritage) = Again change.Other
behind_class p = behind_declaring p

abbrev pub behind_interface : Part → Move
behind_interface (part.Word w) = To stage.Nothing change.TellType
behind_interface p = Again change.Other

-- behind `export import` of TypeScript
abbrev pub behind_export_import : Part → Move
behind_export_import (part.Word w) = To stage.ImportName change.TellDeclared
behind_export_import p = Again change.Other
