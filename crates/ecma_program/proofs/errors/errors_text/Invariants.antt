-- The lines so far are those of the errors of the tokens that so many reads gave, until the end is answered.
use Rattle.ecma_state.specs.Ending.{most_tokens}
use Rattle.ecma_state.specs.Session.{lexer_state}
use Rattle.ecma_program.specs.ErrorLines.{token_lines}
use Rattle.ecma_program.proofs.Listing.{Listed}
use Rattle.ecma_program.proofs.errors.errors_text.Given as goal

abbrev pub invariant-tokens : goal.invariant-tokens
invariant-tokens l = Listed l.fn.options l.fn.rereads l.fn.text token_lines (lexer_state l.lexer) l.out.items

abbrev pub decreases-tokens : goal.decreases-tokens
decreases-tokens l = most_tokens (lexer_state l.lexer)
