-- So many tokens were read, until the end is answered.
use Rattle.ecma_state.specs.Ending.{most_tokens}
use Rattle.ecma_state.specs.Session.{lexer_state}
use Rattle.ecma_measure.proofs.Counting.{CountedSoFar}
use Rattle.ecma_measure.proofs.count.count_tokens.Given as goal

abbrev pub invariant-tokens : goal.invariant-tokens
invariant-tokens l = CountedSoFar l.fn.typescript l.text l.count (lexer_state l.lexer)

abbrev pub decreases-tokens : goal.decreases-tokens
decreases-tokens l = most_tokens (lexer_state l.lexer)
