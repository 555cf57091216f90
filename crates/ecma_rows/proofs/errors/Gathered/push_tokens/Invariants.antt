-- The errors of the tokens so far that are one were gathered.
use Rattle.std.proofs.Common.{[]}
use Rattle.ecma_state.specs.Session.{Session, lexer_state}
use Rattle.ecma_state.specs.Ending.{most_tokens}
use Rattle.ecma_reader.specs.Rereads.{SlashRule}
use Rattle.ecma_reader.specs.Outputs.{errors_among}
use Rattle.ecma_reader.specs.Readers.{IsReady, Shows, Tells}
use Rattle.ecma_rows.specs.ErrorRows.{IsGathered, of_tokens}
use Rattle.ecma_rows.proofs.errors.Gathered.push_tokens.Given as goal

abbrev pub invariant-tokens : goal.invariant-tokens
invariant-tokens l =
    IsReady l.reader
    × ((rule : SlashRule) (begin : Session) → Shows rule begin [] l.initial.reader → IsGathered [] l.initial.self → Tells rule begin (λ ts. IsGathered (of_tokens (errors_among ts)) l.self) l.reader)

abbrev pub decreases-tokens : goal.decreases-tokens
decreases-tokens l = most_tokens (lexer_state l.reader.lexer)
