-- So many tokens were read, each of which left fewer that may come. None is read where memory was refused.
use Rattle.std.proofs.Common.{◌≡◌, ◌+◌, ◌<◌, ◌^◌, [], length, true}
use Rattle.ecma_state.specs.Session.{Session, lexer_state}
use Rattle.ecma_state.specs.Ending.{most_tokens}
use Rattle.ecma_slashes.specs.Rereads.{SlashRule}
use Rattle.ecma_reader.specs.Readers.{IsReady, Shows, Tells}
use Rattle.ecma_reader.proofs.reader.Reader.count_rest.Given as goal

abbrev pub invariant-tokens : goal.invariant-tokens
invariant-tokens l =
    IsReady l.self
    × ((l.count + most_tokens (lexer_state l.self.lexer) < 2 ^ 60)
    × (((rule : SlashRule) (begin : Session) → Shows rule begin [] l.initial.self → Tells rule begin (λ ts. l.count ≡ length ts) l.self) × (l.initial.self.refused ≡ true → l.self ≡ l.initial.self)))

abbrev pub decreases-tokens : goal.decreases-tokens
decreases-tokens l = most_tokens (lexer_state l.self.lexer)
