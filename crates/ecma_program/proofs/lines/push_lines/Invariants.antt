-- What was added is the lines of the first tokens.
use Rattle.std.proofs.Common.{◌≡◌, ◌++◌, map, take}
use Rattle.ecma_token.specs.View.{spanned_view}
use Rattle.ecma_state.specs.Session.{kept_of}
use Rattle.ecma_program.specs.Lines.{lines}
use Rattle.ecma_program.proofs.lines.push_lines.Given as goal

abbrev pub invariant-loop-token : goal.invariant-loop-token
invariant-loop-token l = l.out.items ≡ l.initial.out.items ++ lines l.bytes (map kept_of (map spanned_view (take l.token-index l.tokens)))
