-- What was added is the lines of the errors of the first tokens.
use Rattle.std.proofs.Common.{◌≡◌, ◌++◌, map, take}
use Rattle.std.specs.Prelude.{flat_map}
use Rattle.ecma_token.specs.View.{spanned_view}
use Rattle.ecma_program.specs.ErrorLines.{token_lines}
use Rattle.ecma_program.proofs.errors.push_refusals.Given as goal

abbrev pub invariant-loop-token : goal.invariant-loop-token
invariant-loop-token l = l.out.items ≡ l.initial.out.items ++ flat_map token_lines (map spanned_view (take l.token-index l.tokens))
