-- The lines so far are those of the tokens that so many reads gave.
use Rattle.ecma_state.specs.Ending.{most_tokens}
use Rattle.ecma_state.specs.Session.{lexer_state}
use Rattle.ecma_program.proofs.Listing.{Listed, line_of}
use Rattle.ecma_program.proofs.lines.tokens_text.Given as goal

abbrev pub invariant-tokens : goal.invariant-tokens
invariant-tokens l = Listed l.fn.options l.fn.rereads l.text (line_of l.text) (lexer_state l.lexer) l.out.items

abbrev pub decreases-tokens : goal.decreases-tokens
decreases-tokens l = most_tokens (lexer_state l.lexer)
