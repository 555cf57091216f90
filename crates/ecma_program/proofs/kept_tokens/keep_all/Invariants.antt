-- What was added is what is kept of the first tokens.
use Rattle.std.proofs.Common.{◌≡◌, ◌++◌, map, take}
use Rattle.ecma_token.specs.View.{spanned_view}
use Rattle.ecma_state.specs.Session.{kept_of}
use Rattle.ecma_program.proofs.kept_tokens.keep_all.Given as goal

abbrev pub invariant-loop-token : goal.invariant-loop-token
invariant-loop-token l = l.kept.items ≡ l.initial.kept.items ++ map kept_of (map spanned_view (take l.token-index l.tokens))
