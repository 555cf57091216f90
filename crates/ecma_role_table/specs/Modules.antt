-- Imports and exports: the rows of the table, one a clause
use Rattle.std.specs.Prelude.{Bool, if◌then◌else◌}
use Rattle.ecma_role_table.specs.declared.part.PartKind.{PartKind}
use Rattle.ecma_role_table.specs.declared.part.PartKind.TheVariants.{Name, Reserved, Sign}
use Rattle.ecma_role_table.specs.declared.part.Name.TheVariants as name
use Rattle.ecma_role_table.specs.declared.part.Reserved.TheVariants as reserved
use Rattle.ecma_role_table.specs.declared.part.Sign.TheVariants as sign
use Rattle.ecma_role_table.specs.declared.frame.FrameKind.TheVariants as frame
use Rattle.ecma_role_table.specs.declared.state.State.TheVariants as state
use Rattle.ecma_role_table.specs.declared.moves.Move.{Move}
use Rattle.ecma_role_table.specs.declared.moves.Move.TheVariants.{Again, Brace, To}
use Rattle.ecma_role_table.specs.declared.moves.Change.TheVariants.{ImportEnds, Nothing, Pop, Push, PushTwo, Turn}

-- behind `import`: a declaration, a call or `import.meta` (ECMA-262, 16.2.2, 13.3.10)
abbrev pub behind_import : PartKind → Move
behind_import (Sign sign.LParen) = Again state.After Nothing
behind_import (Sign sign.Dot) = Again state.After Nothing
behind_import kind = Again state.Import (Push frame.ImportHead)

-- what is imported (ECMA-262, 16.2.2)
abbrev pub import_names : PartKind → Move
import_names (Sign sign.Literal) = To state.ImportEnd Nothing
import_names (Sign sign.LBrace) = To state.Clause (Push frame.Clause)
import_names (Sign sign.Assign) = To state.ImportEquals Nothing
import_names (Name n) = To state.Import Nothing
import_names (Reserved r) = To state.Import Nothing
import_names (Sign sign.Comma) = To state.Import Nothing
import_names (Sign sign.Star) = To state.ImportAll Nothing
import_names kind = Again state.Statement Pop

-- behind the `*` of an import or export (ECMA-262, 16.2.2, 16.2.3)
abbrev pub behind_import_all : PartKind → Move
behind_import_all (Name name.As) = To state.ImportAs Nothing
behind_import_all kind = Again state.Import Nothing

-- behind `* as`: a name, of an export also a string (ECMA-262, 16.2.2, 16.2.3)
abbrev pub behind_import_as : PartKind → Move
behind_import_as (Name n) = To state.Import Nothing
behind_import_as (Reserved r) = To state.Import Nothing
behind_import_as (Sign sign.Literal) = To state.Import Nothing
behind_import_as kind = Again state.Import Nothing

-- behind the name of a module (ECMA-262, 16.2.2)
abbrev pub behind_module_name : PartKind → Bool → Move
behind_module_name (Reserved reserved.With) had_line_break = To state.ImportWith Nothing
behind_module_name (Name name.Assert) had_line_break = if had_line_break then Again state.Statement ImportEnds else To state.ImportWith Nothing
behind_module_name kind had_line_break = Again state.Statement ImportEnds

-- behind the `with` of an import (ECMA-262, 16.2.2)
abbrev pub behind_import_with : PartKind → Move
behind_import_with (Sign sign.LBrace) = To state.Clause (Turn frame.Clause)
behind_import_with kind = Again state.Statement Pop

-- behind the `=` of an import of TypeScript
abbrev pub behind_import_equals : PartKind → Move
behind_import_equals (Name n) = To state.ImportEqualsName Nothing
behind_import_equals (Reserved r) = To state.ImportEqualsName Nothing
behind_import_equals kind = Again state.Statement Pop

-- behind a name there, which may be `require`
abbrev pub behind_import_equals_name : PartKind → Move
behind_import_equals_name (Sign sign.Dot) = To state.ImportEquals Nothing
behind_import_equals_name (Sign sign.LParen) = To state.Operand (Turn frame.Control)
behind_import_equals_name kind = Again state.Statement Pop

-- behind `export` (ECMA-262, 16.2.3)
abbrev pub behind_export : PartKind → Move
behind_export (Reserved reserved.Default) = To state.ExportDefault Nothing
behind_export (Name name.TypeWord) = To state.ExportType Nothing
behind_export (Sign sign.LBrace) = To state.Clause (PushTwo frame.ExportHead frame.Clause)
behind_export (Sign sign.Star) = To state.ImportAll (Push frame.ImportHead)
behind_export (Sign sign.Assign) = To state.Operand Nothing
behind_export kind = Again state.Statement Nothing

-- behind `export type` of TypeScript
abbrev pub behind_export_type : PartKind → Move
behind_export_type (Sign sign.LBrace) = Again state.Export Nothing
behind_export_type (Sign sign.Star) = Again state.Export Nothing
behind_export_type kind = Again state.MaybeType Nothing

-- behind the braces of an export (ECMA-262, 16.2.3)
abbrev pub behind_export_clause : PartKind → Move
behind_export_clause (Name name.From) = To state.Import (Turn frame.ImportHead)
behind_export_clause kind = Again state.Statement Pop

-- in the braces of an import, an export or its attributes (ECMA-262, 16.2.2, 16.2.3)
abbrev pub clause : PartKind → Move
clause (Sign sign.RBrace) = Brace
clause (Sign sign.Semi) = Again state.Statement Pop
clause kind = To state.Clause Nothing
