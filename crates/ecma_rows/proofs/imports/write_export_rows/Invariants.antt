-- The rows so far are those of the first exports.
use Rattle.std.proofs.Common.{◌≡◌, map, take}
use Rattle.ecma_rows.specs.ModuleRows.{export_row}
use Rattle.ecma_rows.specs.Told.{written}
use Rattle.ecma_rows.proofs.imports.write_export_rows.Given as goal

abbrev pub invariant-loop-export : goal.invariant-loop-export
invariant-loop-export l = (l.count ≡ l.export-index) × (l.out ≡ written (map (export_row l.text) (take l.export-index l.exports)) l.initial.out)
