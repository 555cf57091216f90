-- What the tokens so far tell was gathered, and what is left to tell behind that is what all tell.
use Rattle.std.proofs.Common.{◌≡◌, drop}
use Rattle.ecma_modules.specs.Modules.{exports_over, gathered, imports_over, scan_over}
use Rattle.ecma_modules.proofs.module.module_of.Given as goal

abbrev pub invariant-tokens : goal.invariant-tokens
invariant-tokens l =
    (scan_over l.gathering.scan (drop l.token-index l.tokens) ≡ (gathered l.fn.options l.tokens).scan)
    × (imports_over l.gathering.scan l.gathering.imports (drop l.token-index l.tokens) ≡ (gathered l.fn.options l.tokens).imports)
    × (exports_over l.gathering.scan l.gathering.exports (drop l.token-index l.tokens) ≡ (gathered l.fn.options l.tokens).exports)
