-- What was added is the lines of the first errors.
use Rattle.std.proofs.Common.{◌≡◌, ◌++◌, map, take}
use Rattle.ecma_token.specs.View.{error_view}
use Rattle.ecma_program.specs.ErrorLines.{error_lines}
use Rattle.ecma_program.proofs.errors.push_errors.Given as goal

abbrev pub invariant-loop-error : goal.invariant-loop-error
invariant-loop-error l = l.out.items ≡ l.initial.out.items ++ error_lines l.what (map error_view (take l.error-index l.errors))
