-- The first errors were gathered.
use Rattle.std.proofs.Common.{List, ◌++◌, map, take}
use Rattle.ecma_token.specs.View.{error_view}
use Rattle.ecma_rows.specs.ErrorRows.{IsGathered, Sourced, sourced}
use Rattle.ecma_rows.proofs.errors.Gathered.push_all.Given as goal

abbrev pub invariant-loop-error : goal.invariant-loop-error
invariant-loop-error l = (es : List Sourced) → IsGathered es l.initial.self → IsGathered (es ++ sourced l.source (map error_view (take l.error-index l.errors))) l.self
