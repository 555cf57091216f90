-- What was found, and what is found behind it, is all, and no more brackets are open than tokens were passed.
use Rattle.std.proofs.Common.{◌≡◌, ◌≤◌, ◌++◌, drop}
use Rattle.ecma_imports.specs.Stages.{specifiers_from, specifiers_of}
use Rattle.ecma_imports.proofs.imported.specifiers.Given as goal

abbrev pub invariant-loop-token : goal.invariant-loop-token
invariant-loop-token l =
    (l.found.items ++ specifiers_from l.stage l.depth (drop l.token-index l.kept) ≡ specifiers_of l.kept) × (l.depth ≤ l.token-index)
