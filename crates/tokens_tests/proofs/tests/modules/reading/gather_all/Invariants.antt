use Rattle.ecma_state.specs.Ending.{most_tokens}
use Rattle.ecma_state.specs.Session.{lexer_state}
use Rattle.ecma_reader.specs.Readers.{IsReady}
use Rattle.tokens_tests.proofs.tests.modules.reading.gather_all.Given as goal

abbrev pub invariant-tokens : goal.invariant-tokens
invariant-tokens l = IsReady l.reader

abbrev pub decreases-tokens : goal.decreases-tokens
decreases-tokens l = most_tokens (lexer_state l.reader.lexer)
