-- So many reads gave a token each, until the end is answered.
use Rattle.ecma_state.specs.Ending.{most_tokens}
use Rattle.ecma_state.specs.Session.{lexer_state}
use Rattle.ecma_program.proofs.Gathering.{PassedSoFar}
use Rattle.ecma_program.proofs.comments.read_out.Given as goal

abbrev pub invariant-tokens : goal.invariant-tokens
invariant-tokens l = PassedSoFar (lexer_state l.initial.lexer) (lexer_state l.lexer)

abbrev pub decreases-tokens : goal.decreases-tokens
decreases-tokens l = most_tokens (lexer_state l.lexer)
