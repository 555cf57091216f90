-- What the tokens so far give is kept.
use Rattle.std.proofs.Common.{◌≡◌, []}
use Rattle.ecma_state.specs.Session.{Session, kept_of, lexer_state}
use Rattle.ecma_state.specs.Ending.{most_tokens}
use Rattle.ecma_slashes.specs.Rereads.{SlashRule}
use Rattle.ecma_reader.specs.Readers.{IsReady, Maps, Shows, Tells}
use Rattle.ecma_reader.proofs.tokens.keep_rest.Given as goal

abbrev pub invariant-tokens : goal.invariant-tokens
invariant-tokens l =
    IsReady l.reader × ((rule : SlashRule) (begin : Session) → Shows rule begin [] l.initial.reader → l.initial.kept.items ≡ [] → Tells rule begin (Maps kept_of l.kept.items) l.reader)

abbrev pub decreases-tokens : goal.decreases-tokens
decreases-tokens l = most_tokens (lexer_state l.reader.lexer)
