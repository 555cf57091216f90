-- The table: for each stage its row
use Rattle.std.specs.Prelude.{◌==◌, Bool, true, false}
use Rattle.ecma_module_table.specs.declared.part.Part.{Part}
use Rattle.ecma_module_table.specs.declared.part.Part.TheVariants as part
use Rattle.ecma_module_table.specs.declared.part.Word.{Word}
use Rattle.ecma_module_table.specs.declared.part.Word.TheVariants as word
use Rattle.ecma_module_table.specs.declared.rows.Form.{Form}
use Rattle.ecma_module_table.specs.declared.rows.Form.TheVariants as form
use Rattle.ecma_module_table.specs.declared.stage.Stage.{Stage}
use Rattle.ecma_module_table.specs.declared.stage.Stage.TheVariants as stage
use Rattle.ecma_module_table.specs.declared.stage.Change.{Change}
use Rattle.ecma_module_table.specs.declared.stage.Change.TheVariants as change
use Rattle.ecma_module_table.specs.declared.stage.Move.{Move}
use Rattle.ecma_module_table.specs.declared.stage.Move.TheVariants.{To, Again}
use Rattle.ecma_module_table.specs.declared.stage.Seen.{Seen}
use Rattle.ecma_module_table.specs.Imports as imports
use Rattle.ecma_module_table.specs.Exports as exports

-- behind `import x =` of TypeScript
abbrev pub behind_equals : Part → Move
behind_equals (part.Word word.Require) = To stage.EqualsRequire change.Nothing
behind_equals p = Again change.Other

-- behind a word that a parenthesis follows
abbrev pub before_paren : Part → Stage → Move
before_paren part.Paren s = To s change.Nothing
before_paren p s = Again change.Other

-- behind a parenthesis that a string follows
abbrev pub before_text : Part → Stage → Form → Move
before_text part.Text s form = To s (change.Specify form)
before_text p s form = Again change.Other

-- behind a string that a parenthesis follows, with which all ends
abbrev pub before_end : Part → Move
before_end part.EndParen = To stage.Nothing change.CompleteHere
before_end p = Again change.Other

-- behind `declare` of TypeScript, where `module` is the only name of six letters that can come
abbrev pub behind_declare : Bool → Part → Move
behind_declare false (part.Word word.OfSix) = To stage.DeclareModule change.Nothing
behind_declare had_line_break p = Again change.Other

abbrev pub behind_declare_module : Bool → Part → Move
behind_declare_module false part.Text = To stage.Nothing change.CompleteText
behind_declare_module had_line_break p = Again change.Other

-- behind `.` or `#` a name comes, which is none of the words
abbrev pub behind_member : Part → Move
behind_member part.Member = Again change.Nothing
behind_member p = To stage.Nothing change.Nothing

-- what is to be done with a token at a stage
unfoldable pub row : Stage → Seen → Part → Move
row stage.Nothing seen p = Again change.Nothing
row stage.Member seen p = behind_member p
row stage.Import seen p = imports.behind_import p
row stage.Inside seen p = imports.behind_inside p
row stage.ImportMember seen p = imports.behind_import_member p
row stage.PhaseCall seen p = imports.behind_phase p
row stage.ImportType seen p = imports.behind_import_type p
row stage.ImportTypeFrom seen p = imports.behind_import_type_from p
row stage.ImportDefer seen p = imports.behind_import_defer p
row stage.ImportSource seen p = imports.behind_import_source p
row stage.ImportSourceFrom seen p = imports.behind_import_source_from p
row stage.ImportName seen p = imports.behind_import_name p
row stage.ImportClause seen p = imports.behind_import_clause p
row stage.ImportBraces seen p = imports.in_import_braces seen.depth p
row stage.BeforeFrom seen p = imports.before_from p
row stage.From seen p = imports.behind_from p
row stage.ExportFrom seen p = imports.behind_export_from p
row stage.Specified seen p = imports.behind_specifier seen.had_line_break p
row stage.With seen p = imports.behind_with p
row stage.Attributes seen p = imports.in_attributes seen.depth p
row stage.Equals seen p = behind_equals p
row stage.EqualsRequire seen p = before_paren p stage.EqualsParen
row stage.EqualsParen seen p = before_text p stage.RequireText form.Equals
row stage.Require seen p = before_paren p stage.RequireParen
row stage.RequireParen seen p = before_text p stage.RequireText form.Require
row stage.RequireText seen p = before_end p
row stage.Declare seen p = behind_declare seen.had_line_break p
row stage.DeclareModule seen p = behind_declare_module seen.had_line_break p
row stage.Export seen p = exports.behind_export p
row stage.ExportStar seen p = exports.behind_star p
row stage.ExportStarAs seen p = exports.behind_star_as p
row stage.ExportStarName seen p = exports.before_export_from p
row stage.ExportType seen p = exports.behind_export_type p
row stage.Names seen p = exports.before_name p
row stage.Name seen p = exports.behind_name p
row stage.NameAs seen p = exports.behind_name_as p
row stage.NameType seen p = exports.behind_name_type p
row stage.NameTypeAs seen p = exports.behind_name_type_as p
row stage.NameTypeAsAs seen p = exports.behind_name_type_as_as p
row stage.NameEnd seen p = exports.behind_name_end p
row stage.NamesEnd seen p = exports.behind_names p
row stage.Default seen p = exports.behind_default p
row stage.DefaultAsync seen p = exports.behind_default_async seen.had_line_break p
row stage.DefaultAbstract seen p = exports.behind_default_abstract p
row stage.DefaultFunction seen p = exports.behind_default_function p
row stage.DefaultClass seen p = exports.behind_default_class p
row stage.DefaultInterface seen p = exports.behind_default_interface p
row stage.DefaultDecorators seen p = exports.in_default_decorators seen.depth p
row stage.Async seen p = exports.behind_async seen.had_line_break p
row stage.Function seen p = exports.behind_function p
row stage.Class seen p = exports.behind_class p
row stage.Declared seen p = exports.behind_declaring p
row stage.Interface seen p = exports.behind_interface p
row stage.Decorators seen p = exports.in_decorators seen.depth p
row stage.ExportImport seen p = exports.behind_export_import p

-- what begins with a token: at top level or inside
abbrev pub import_begun : Bool → Stage
import_begun true = stage.Import
import_begun false = stage.Inside

-- a stage and a change where this holds, else what is no import or export
abbrev pub if_so : Bool → Stage → Change → Stage × Change
if_so true s c = (s, c)
if_so false s c = (stage.Nothing, change.Other)

-- the stage behind a token that may begin something, and what it changes
abbrev pub begun : Seen → Part → Stage × Change
begun seen (part.Word word.Import) = (import_begun (seen.depth == 0), change.Begin)
begun seen (part.Word word.ImportType) = (stage.Inside, change.BeginType)
begun seen (part.Word word.Export) = if_so (seen.depth == 0) stage.Export change.BeginExport
begun seen (part.Word word.Declare) = if_so (seen.depth == 0) stage.Declare change.BeginOther
begun seen (part.Word word.Require) = if_so seen.commonjs stage.Require change.BeginOther
begun seen part.Member = (stage.Member, change.Other)
begun seen part.Semi = (stage.Nothing, change.Nothing)
begun seen part.Shebang = (stage.Nothing, change.Nothing)
begun seen p = (stage.Nothing, change.Other)
