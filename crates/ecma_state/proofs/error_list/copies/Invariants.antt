use Rattle.std.proofs.Common.{◌≡◌, map, take}
use Rattle.ecma_token.specs.View.{error_view}
use Rattle.ecma_state.proofs.error_list.copies.Given as goal

abbrev pub invariant-errors : goal.invariant-errors
invariant-errors l = map error_view l.copies.items ≡ map error_view (take l.error-index l.errors)
