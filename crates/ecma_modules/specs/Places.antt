-- Where rows lie: within the tokens that were gone through, and their parts within their statements
use Rattle.std.specs.Prelude.{ℕ, ◌≤◌, ◌≡◌, ◌++◌, ◌∷◌, List, [], Option, Some, None, ⊤}
use Rattle.ecma_span.specs.declared.place.Span.{Span}
use Rattle.ecma_modules.specs.declared.region.ModuleToken.{ModuleToken}
use Rattle.ecma_module_table.specs.declared.rows.Argument.{Argument}
use Rattle.ecma_module_table.specs.declared.rows.Export.{Export}
use Rattle.ecma_module_table.specs.declared.rows.Import.{Import}
use Rattle.ecma_module_table.specs.declared.rows.ImportTold.{ImportTold}
use Rattle.ecma_module_table.specs.declared.rows.ImportTold.TheVariants.{Begun, Ended, Row}
use Rattle.ecma_module_table.specs.declared.rows.ModuleOptions.{ModuleOptions}
use Rattle.ecma_module_table.specs.declared.rows.Specifier.{Specifier}
use Rattle.ecma_module_table.specs.declared.rows.Told.{Told}
use Rattle.ecma_modules.specs.Modules.{exports_over, gathered, gathered_with, imports_over, scan_of, scan_over}
use Rattle.ecma_modules.specs.Scans.{ScanView, told}

-- tokens from a place on, each behind the one before it
abbrev pub IsPlaced : ℕ → List ModuleToken → Type 0
IsPlaced p [] = ⊤
IsPlaced p (k ∷ ks) = (p ≤ k.kept.span.lo.0) × (k.kept.span.lo.0 ≤ k.kept.span.hi.0) × IsPlaced k.kept.span.hi.0 ks

-- a span from one place on up to another
abbrev pub Lies : ℕ → ℕ → Span → Type 0
Lies p q s = (p ≤ s.lo.0) × (s.lo.0 ≤ s.hi.0) × (s.hi.0 ≤ q)

abbrev pub SpanLies : ℕ → ℕ → Option Span → Type 0
SpanLies p q None = ⊤
SpanLies p q (Some s) = Lies p q s

abbrev pub SpecifierLies : ℕ → ℕ → Option Specifier → Type 0
SpecifierLies p q None = ⊤
SpecifierLies p q (Some s) = Lies p q s.span

abbrev pub ArgumentLies : ℕ → ℕ → Option Argument → Type 0
ArgumentLies p q None = ⊤
ArgumentLies p q (Some a) = (p ≤ a.paren.0) × Lies a.paren.0 q a.span

-- an import up to a place, its parts in its statement
pub record ImportLies (q : ℕ) (row : Import) : Type 0 where
  pub statement : Lies 0 q row.statement
  pub specifier : SpecifierLies row.statement.lo.0 row.statement.hi.0 row.specifier
  pub argument : ArgumentLies row.statement.lo.0 row.statement.hi.0 row.argument
  pub attributes : SpanLies row.statement.lo.0 row.statement.hi.0 row.attributes

abbrev pub ImportToldLies : ℕ → Option ImportTold → Type 0
ImportToldLies q None = ⊤
ImportToldLies q (Some (Row row)) = ImportLies q row
ImportToldLies q (Some (Begun row)) = ImportLies q row
ImportToldLies q (Some (Ended number row)) = ImportLies q row

abbrev pub ExportLies : ℕ → Option Export → Type 0
ExportLies q None = ⊤
ExportLies q (Some row) = Lies 0 q row.name × SpanLies 0 q row.local

-- what a token tells lies in the tokens up to it
abbrev pub ToldLies : ℕ → Told → Type 0
ToldLies q t = ImportToldLies q t.import × ExportLies q t.export

abbrev pub RowsLieInTokens : Type 0
RowsLieInTokens = (options : ModuleOptions) (ks : List ModuleToken) (k : ModuleToken) → IsPlaced 0 (ks ++ k ∷ []) → ToldLies k.kept.span.hi.0 (told (scan_of options ks) k)

-- tokens behind tokens go on from what those told
abbrev pub ImportsGoOn : Type 0
ImportsGoOn = (s : ScanView) (rows : List Import) (xs ys : List ModuleToken) → imports_over s rows (xs ++ ys) ≡ imports_over (scan_over s xs) (imports_over s rows xs) ys

abbrev pub ExportsGoOn : Type 0
ExportsGoOn = (s : ScanView) (rows : List Export) (xs ys : List ModuleToken) → exports_over s rows (xs ++ ys) ≡ exports_over (scan_over s xs) (exports_over s rows xs) ys

-- what is gathered of tokens and one more is what was gathered of these, with that one
abbrev pub GatheredGoesOn : Type 0
GatheredGoesOn = (options : ModuleOptions) (ks : List ModuleToken) (k : ModuleToken) → gathered options (ks ++ k ∷ []) ≡ gathered_with (gathered options ks) k
