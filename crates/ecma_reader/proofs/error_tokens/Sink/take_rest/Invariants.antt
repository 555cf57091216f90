-- What the tokens so far give is kept, and the errors of those that are one.
use Rattle.std.proofs.Common.{◌≡◌, [], map}
use Rattle.ecma_token.specs.View.{error_view, refusal_of}
use Rattle.ecma_state.specs.Session.{Session, kept_of, lexer_state}
use Rattle.ecma_state.specs.Ending.{most_tokens}
use Rattle.ecma_slashes.specs.Rereads.{SlashRule}
use Rattle.ecma_reader.specs.Readers.{FlatMaps, IsReady, Maps, Shows, Tells}
use Rattle.ecma_reader.proofs.error_tokens.Sink.take_rest.Given as goal

abbrev pub invariant-tokens : goal.invariant-tokens
invariant-tokens l =
    IsReady l.reader
    × ((rule : SlashRule) (begin : Session) → Shows rule begin [] l.initial.reader → l.initial.self.kept.items ≡ [] → l.initial.self.errors.items ≡ []
    → Tells rule begin (Maps kept_of l.self.kept.items) l.reader × Tells rule begin (FlatMaps (λ t. refusal_of t.token) (map error_view l.self.errors.items)) l.reader)

abbrev pub decreases-tokens : goal.decreases-tokens
decreases-tokens l = most_tokens (lexer_state l.reader.lexer)
