-- The rows of tokens behind tokens
use Rattle.std.proofs.Common.{◌≡◌, ◌++◌, ◌∷◌, List, [], refl}
use Rattle.ecma_modules.specs.declared.region.ModuleToken.{ModuleToken}
use Rattle.ecma_module_table.specs.declared.rows.Export.{Export}
use Rattle.ecma_module_table.specs.declared.rows.Import.{Import}
use Rattle.ecma_modules.specs.Modules.{exports_behind, exports_over, gathered_with, gathering, imports_behind, imports_over, scan_over}
use Rattle.ecma_modules.specs.Places.{ExportsGoOn, GatheredGoesOn, ImportsGoOn}
use Rattle.ecma_modules.specs.Scans.{ScanView, first_scan, scanned, told}

-- tokens behind tokens go on from what those told
pub imports-go-on : ImportsGoOn
imports-go-on s rows [] ys = refl
imports-go-on s rows (x ∷ xs) ys = imports-go-on (scanned s x) (imports_behind (told s x).import rows) xs ys

pub exports-go-on : ExportsGoOn
exports-go-on s rows [] ys = refl
exports-go-on s rows (x ∷ xs) ys = exports-go-on (scanned s x) (exports_behind (told s x).export rows) xs ys

-- what is gathered of tokens and one more
gathering-on : (s : ScanView) (imports : List Import) (exports : List Export) (ks : List ModuleToken) (k : ModuleToken)
    → gathering (scan_over s (ks ++ k ∷ [])) (imports_over s imports (ks ++ k ∷ [])) (exports_over s exports (ks ++ k ∷ []))
    ≡ gathered_with (gathering (scan_over s ks) (imports_over s imports ks) (exports_over s exports ks)) k
gathering-on s imports exports [] k = refl
gathering-on s imports exports (x ∷ xs) k = gathering-on (scanned s x) (imports_behind (told s x).import imports) (exports_behind (told s x).export exports) xs k

pub gathered-on : GatheredGoesOn
gathered-on options ks k = gathering-on (first_scan options) [] [] ks k
