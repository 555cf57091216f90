-- What is kept of the tokens that so many reads gave stands behind what was kept before.
use Rattle.ecma_state.specs.Ending.{most_tokens}
use Rattle.ecma_state.specs.Session.{lexer_state}
use Rattle.ecma_program.proofs.Keeping.{KeptSoFar}
use Rattle.ecma_program.proofs.kept_tokens.keep_rest.Given as goal

abbrev pub invariant-tokens : goal.invariant-tokens
invariant-tokens l = KeptSoFar (lexer_state l.initial.lexer) (lexer_state l.lexer) l.initial.kept.items l.kept.items

abbrev pub decreases-tokens : goal.decreases-tokens
decreases-tokens l = most_tokens (lexer_state l.lexer)
