-- What the tokens of a text import and export.
use Rattle.std.proofs.Common.{◌≡◌, ◌∙◌, ℕ, Bool, List, ap}
use Rattle.ecma_module_table.specs.declared.rows.Export.{Export}
use Rattle.ecma_module_table.specs.declared.rows.Import.{Import}
use Rattle.ecma_module_table.specs.declared.rows.ModuleOptions.{ModuleOptions}
use Rattle.ecma_modules.specs.Modules.{GatheringView, exports_at_end, exports_of, gathered, imports_at_end, imports_of, is_facade}
use Rattle.ecma_modules.specs.declared.region.ModuleToken.{ModuleToken}
use Rattle.ecma_modules.specs.Scans.{ended_scan}
use Rattle.ecma_rows.specs.ModuleRows.{module_view, view_of}

-- what was gathered of all tokens is the module that they are
pub module-gathered : (met there : Bool) (options : ModuleOptions) (tokens : List ModuleToken) (bytes text : List ℕ) (g : GatheringView) (is : List Import) (es : List Export) (f s : Bool)
    → met ≡ there → bytes ≡ text → g ≡ gathered options tokens → is ≡ imports_at_end g.scan g.imports → es ≡ exports_at_end g.scan g.exports
    → f ≡ (ended_scan g.scan).known.is_facade → s ≡ (ended_scan g.scan).known.has_module_syntax
    → view_of met is es f s bytes ≡ module_view there options tokens text
module-gathered met there options tokens bytes text g is es f s same read so imports exports facade syntax =
    ap (λ b. view_of b is es f s bytes) same
    ∙ ap (λ (t : List ℕ). view_of there is es f s t) read
    ∙ ap (λ (xs : List Import). view_of there xs es f s text) (imports ∙ ap (λ (x : GatheringView). imports_at_end x.scan x.imports) so)
    ∙ ap (λ (xs : List Export). view_of there (imports_of options tokens) xs f s text) (exports ∙ ap (λ (x : GatheringView). exports_at_end x.scan x.exports) so)
    ∙ ap (λ b. view_of there (imports_of options tokens) (exports_of options tokens) b s text) (facade ∙ ap (λ (x : GatheringView). (ended_scan x.scan).known.is_facade) so)
    ∙ ap (λ b. view_of there (imports_of options tokens) (exports_of options tokens) (is_facade options tokens) b text) (syntax ∙ ap (λ (x : GatheringView). (ended_scan x.scan).known.has_module_syntax) so)
