-- The rows so far are those of the first imports.
use Rattle.std.proofs.Common.{◌≡◌, map, take}
use Rattle.ecma_rows.specs.ModuleRows.{import_row}
use Rattle.ecma_rows.specs.Told.{written}
use Rattle.ecma_rows.proofs.imports.write_import_rows.Given as goal

abbrev pub invariant-loop-import : goal.invariant-loop-import
invariant-loop-import l = (l.count ≡ l.import-index) × (l.out ≡ written (map (import_row l.text) (take l.import-index l.imports)) l.initial.out)
